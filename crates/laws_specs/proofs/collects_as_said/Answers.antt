use Rattle.laws_specs.proofs.Collected.{collects_as_said_lem}
use Rattle.laws_specs.proofs.collects_as_said.Goals as goal

pub returns : goal.returns
returns c = collects_as_said_lem
