use Rattle.cranelift_isle.proofs.LowerLaws.{chosen_lem}
use Rattle.cranelift_isle.proofs.laws.chosen.Goals as goal

pub returns : goal.returns
returns c = chosen_lem c.lowered_terms_run_by_functions.ensures
