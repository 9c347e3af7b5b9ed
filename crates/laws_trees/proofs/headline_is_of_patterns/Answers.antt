use Rattle.laws_trees.proofs.PatternConstants.{headline_is_of_patterns_lem}
use Rattle.laws_trees.proofs.headline_is_of_patterns.Goals as goal

pub returns : goal.returns
returns c = headline_is_of_patterns_lem
