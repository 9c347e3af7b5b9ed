use Rattle.laws_trees.proofs.total.Total.{runs_by_functions_as_chosen_lem}
use Rattle.laws_trees.proofs.runs_by_functions_as_chosen.Goals as goal

pub returns : goal.returns
returns c = runs_by_functions_as_chosen_lem
