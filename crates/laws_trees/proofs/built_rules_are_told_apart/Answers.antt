use Rattle.laws_trees.proofs.DisjointRules.{built_rules_are_told_apart_lem}
use Rattle.laws_trees.proofs.built_rules_are_told_apart.Goals as goal

pub returns : goal.returns
returns c = built_rules_are_told_apart_lem c.built_demands_are_whole.ensures
