-- Around a place the sources of arms differ, so do those of loops, and no pair is joined by the others.
use Rattle.std.proofs.Common.{◌≡◌, ℕ, true, false, not, ◌&&◌, List, ◌∷◌, map, Option, Some, slice_get, refl, arith}
use Rattle.std.proofs.lemmas.Bool.{and_parts, and_from, or_parts}
use Rattle.std.proofs.lemmas.List.Folds.{list_any-append}
use Rattle.std.proofs.lemmas.Grind.{common_steps}
use Rattle.model.specs.sites.Sites.{iterator_site, Constraint, SiteSet}
use Rattle.model.specs.trees.Trees.{MarkedCheck}
use Rattle.model.specs.trees.Places.{Around, nothing_around, is_in, in_arm, in_equal, in_loop, after_step}
use Rattle.model.specs.trees.Tests.{match_test, equal_test, loop_test, sources_around, is_at_hand, IsOpen}
use Rattle.model.specs.trees.Best.{are_distinct}
use Rattle.laws_trees.proofs.JudgeExactness.{not_exact}
use Rattle.laws_trees.proofs.Pairs.{Independent}
use Rattle.laws_trees.proofs.Passing.{sources_there}

abbrev pub matched_around : Around → List ℕ
matched_around ar = map (λ (d : ℕ × Constraint). d.0) ar.tested

pub record IsStraight (ar : Around) : Type 0 where
  pub matched : are_distinct (matched_around ar) ≡ true
  pub looped : are_distinct ar.looped ≡ true
  pub joined : Independent ar.joined

pub straight_at_start : IsStraight nothing_around
straight_at_start = record { matched = refl; looped = refl; joined = tt }

one_more : (x : ℕ) (xs : List ℕ) → is_in x xs ≡ false → are_distinct xs ≡ true → are_distinct (x ∷ xs) ≡ true
one_more x xs f h = and_from (not (is_in x xs)) (are_distinct xs) ((not_exact (is_in x xs)).1 f) h

module _ (set : SiteSet) (ar : Around) (straight : IsStraight ar) where
  new_source : (s : ℕ) → (is_at_hand set ar s && not (is_in s (sources_around ar))) ≡ true → (is_in s (matched_around ar) ≡ false) × (is_in s ar.looped ≡ false)
  new_source s h = grind (arith, common_steps, not_exact, and_parts, or_parts, list_any-append)

  pub straight_after : (check : MarkedCheck) → IsStraight (after_step set ar check)
  straight_after check = record { matched = straight.matched; looped = straight.looped; joined = straight.joined }

  pub straight_arm : (s : ℕ) (c : Constraint) (fields : List (Option ℕ)) → IsOpen set ar (match_test s) → IsStraight (in_arm set ar s c fields)
  straight_arm s c fields h = record { matched = one_more s (matched_around ar) (new_source s h).0 straight.matched; looped = straight.looped; joined = straight.joined }

  pub straight_equal : (a b : ℕ) → IsOpen set ar (equal_test a b) → IsStraight (in_equal set ar a b)
  straight_equal a b h = grind (arith, common_steps, not_exact, and_parts)

  pub straight_loop : (result source : ℕ) → slice_get set.sites result ≡ Some (iterator_site source) → IsOpen set ar (loop_test source) → IsStraight (in_loop set ar result)
  straight_loop result source e h = grind (arith, common_steps, sources_there, one_more, new_source)
