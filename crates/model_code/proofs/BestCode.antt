-- The code of a best tree runs as the tree.
use Rattle.std.proofs.Common.{ap, ◌∙◌}
use Rattle.model_code.specs.CodeLaws.{binds_none_in_place, CodeOfBestTreesRuns}
use Rattle.model_code.proofs.CodeRunning.{code_runs_as_tree_lem}
use Rattle.model_code.proofs.NothingInPlace.{best_trees_bind_none_in_place_lem}

pub code_of_best_trees_runs_lem : CodeOfBestTreesRuns
code_of_best_trees_runs_lem set tree w p best same = code_runs_as_tree_lem tree w p (ap (binds_none_in_place tree) same ∙ best_trees_bind_none_in_place_lem set tree best)
