use Rattle.model_code.proofs.CodeRunning.{code_runs_as_tree_lem}
use Rattle.model_code.proofs.code_runs_as_tree.Goals as goal

pub returns : goal.returns
returns c = code_runs_as_tree_lem
