use Rattle.laws_specs.proofs.Answers.{computes_as_said_by_priority_lem}
use Rattle.laws_specs.proofs.computes_as_said_by_priority.Goals as goal

pub returns : goal.returns
returns c = computes_as_said_by_priority_lem
