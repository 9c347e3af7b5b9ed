use Rattle.laws_specs.proofs.Answers.{lowered_terms_compute_as_said_lem}
use Rattle.laws_specs.proofs.lowered_terms_compute_as_said.Goals as goal

pub returns : goal.returns
returns c = lowered_terms_compute_as_said_lem
