use Rattle.laws_trees.proofs.PatternConstants.{literals_are_told_apart_lem}
use Rattle.laws_trees.proofs.literals_are_told_apart.Goals as goal

pub returns : goal.returns
returns c = literals_are_told_apart_lem
