use Rattle.laws_specs.proofs.Answers.{chooses_as_said_lem}
use Rattle.laws_specs.proofs.chooses_as_said.Goals as goal

pub returns : goal.returns
returns c = chooses_as_said_lem
