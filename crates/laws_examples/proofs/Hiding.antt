-- A tree that chooses rightly, and a better test that it hides.
use Rattle.std.proofs.Common.{false, refl, subst, arith}
use Rattle.model.specs.trees.Best.{IsBestTree, SharesMost}
use Rattle.model.specs.trees.Judge.{marking}
use Rattle.model.specs.trees.Places.{nothing_around}
use Rattle.model.specs.trees.Tests.{match_test}
use Rattle.model.specs.claims.Layers.{TestsAreShared}
use Rattle.laws_trees.proofs.Marking.{marks_found}
use Rattle.laws_trees.proofs.Shares.{best_trees_share_most_lem}
use Rattle.laws_examples.proofs.NearTrees.{hidden_is_best}
use Rattle.laws_examples.specs.Hiding.{BetterTestsAreNotHidden, hidden_set, hidden_tree, hiding_tree}

best_is_shared : IsBestTree hidden_set hidden_tree → TestsAreShared hidden_set hidden_tree
best_is_shared best = record { marked = best.marked; returns = best.returns; most = best_trees_share_most_lem hidden_set best.marked best.steps }

hidden : TestsAreShared hidden_set hiding_tree → ⊥
hidden t =
    let most : SharesMost hidden_set nothing_around false (marking hidden_set.rules hiding_tree) =
    subst (SharesMost hidden_set nothing_around false) (marks_found hidden_set hiding_tree t.marked refl t.returns) t.most in
    let two = most.0.0 (match_test 1) refl in
    omega (arith, two)

pub better_tests_are_not_hidden : BetterTestsAreNotHidden
better_tests_are_not_hidden = (refl, refl, best_is_shared hidden_is_best.0.best, hidden)
