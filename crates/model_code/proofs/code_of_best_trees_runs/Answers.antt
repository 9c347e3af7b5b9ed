use Rattle.model_code.proofs.BestCode.{code_of_best_trees_runs_lem}
use Rattle.model_code.proofs.code_of_best_trees_runs.Goals as goal

pub returns : goal.returns
returns c = code_of_best_trees_runs_lem
