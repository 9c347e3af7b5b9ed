use Rattle.laws_trees.proofs.Uses.{bytes_are_told_apart_lem}
use Rattle.laws_trees.proofs.bytes_are_told_apart.Goals as goal

pub returns : goal.returns
returns c = bytes_are_told_apart_lem
