use Rattle.laws_questions.proofs.Refuted.{refuted_programs_compute_as_said_lem}
use Rattle.laws_questions.proofs.refuted_programs_compute_as_said.Goals as goal

pub returns : goal.returns
returns c = refuted_programs_compute_as_said_lem c.questions_ask_enough.ensures c.programs_of_sets_compute_as_said.ensures
