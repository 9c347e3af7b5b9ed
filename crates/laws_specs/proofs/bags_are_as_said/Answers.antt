use Rattle.laws_specs.proofs.Collected.{bags_are_as_said_lem}
use Rattle.laws_specs.proofs.bags_are_as_said.Goals as goal

pub returns : goal.returns
returns c = bags_are_as_said_lem
