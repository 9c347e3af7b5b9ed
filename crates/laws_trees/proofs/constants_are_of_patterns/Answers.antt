use Rattle.laws_trees.proofs.PatternConstants.{constants_are_of_patterns_lem}
use Rattle.laws_trees.proofs.constants_are_of_patterns.Goals as goal

pub returns : goal.returns
returns c = constants_are_of_patterns_lem
