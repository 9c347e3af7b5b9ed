use Rattle.laws_trees.proofs.FiniteAndTotal.{lowered_terms_run_by_functions_lem}
use Rattle.laws_trees.proofs.lowered_terms_run_by_functions.Goals as goal

pub returns : goal.returns
returns c = lowered_terms_run_by_functions_lem
