use Rattle.laws_specs.proofs.Answers.{chooses_as_said_by_priority_lem}
use Rattle.laws_specs.proofs.chooses_as_said_by_priority.Goals as goal

pub returns : goal.returns
returns c = chooses_as_said_by_priority_lem
