use Rattle.laws_trees.proofs.results.Held.{results_are_held_lem}
use Rattle.laws_trees.proofs.results_are_held.Goals as goal

pub returns : goal.returns
returns c = results_are_held_lem
