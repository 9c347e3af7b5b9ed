use Rattle.cranelift_isle.proofs.LowerLaws.{collected_lem}
use Rattle.cranelift_isle.proofs.laws.collected.Goals as goal

pub returns : goal.returns
returns c = collected_lem c.lowered_terms_run_by_functions.ensures
