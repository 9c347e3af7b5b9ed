-- The best tree of a built set is the only one.
use Rattle.std.proofs.Common.{arith}
use Rattle.std.proofs.lemmas.Grind.{common_steps}
use Rattle.model.specs.claims.Environments.{program_of}
use Rattle.laws_sites.proofs.built.DistinctSites.{sites_stand_once_lem}
use Rattle.laws_trees.specs.OneTree.{BuiltSetsHaveOneBestTree, LoweredTreesAreOnlyBest}
use Rattle.laws_trees.proofs.OneTree.{best_trees_are_one_lem}

pub built_sets_have_one_best_tree_lem : BuiltSetsHaveOneBestTree
built_sets_have_one_best_tree_lem set tree built best = record {
  best = best;
  only = λ other is. best_trees_are_one_lem set other tree (sites_stand_once_lem (program_of built.types built.defs built.rules.rules) built.term set built.built) is best;
}

pub lowered_trees_are_only_best_lem : LoweredTreesAreOnlyBest
lowered_trees_are_only_best_lem p l is = grind (arith, common_steps, best_trees_are_one_lem l.set, sites_stand_once_lem p l.term l.set is.built)
