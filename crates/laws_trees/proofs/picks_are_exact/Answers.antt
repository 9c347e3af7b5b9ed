use Rattle.laws_trees.proofs.picks.PickLists.{picks_are_exact_lem}
use Rattle.laws_trees.proofs.picks_are_exact.Goals as goal

pub returns : goal.returns
returns c = picks_are_exact_lem
