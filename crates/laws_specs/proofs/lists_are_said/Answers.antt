use Rattle.laws_specs.proofs.SampleLists.{lists_are_said_lem}
use Rattle.laws_specs.proofs.lists_are_said.Goals as goal

pub returns : goal.returns
returns c = lists_are_said_lem
