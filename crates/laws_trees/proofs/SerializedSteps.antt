-- What best steps of a built set make: a best tree, which means what its set does.
use Rattle.std.proofs.Common.{◌≡◌, ℕ, zero, suc, ◌+◌, ◌<◌, ◌≤◌, ◌==◌, false, cond, length, count_by, refl, ap, ◌∙◌, inl, inr, arith, eqb-true}
use Rattle.std.specs.Prelude.{IsPermutation}
use Rattle.std.proofs.lemmas.Bool.{cases_Bool, cases_lt}
use Rattle.std.proofs.lemmas.List.Sorted.{sum_by-IsPermutation, IsPermutation-sym, Contains-permutation}
use Rattle.std.proofs.lemmas.List.Sums.{sum_by-append, sum_by-cons}
use Rattle.std.proofs.lemmas.Grind.{common_steps}
use Rattle.model.specs.sites.Sites.{SiteSet}
use Rattle.model.specs.trees.Trees.{Tree, Marked, marks, plain}
use Rattle.model.specs.trees.Places.{nothing_around}
use Rattle.model.specs.trees.Sound.{ReturnsEach}
use Rattle.model.specs.trees.Tests.{up_to}
use Rattle.model.specs.trees.Best.{BestSteps}
use Rattle.model.specs.claims.Layers.{IsBuiltForSome, IsSerialized}
use Rattle.model.proofs.Members.{from_up_to}
use Rattle.model.proofs.Elements.{contains_from_in}
use Rattle.laws_sites.proofs.built.WellBuiltSets.{all_from_in}
use Rattle.laws_trees.specs.TreeMeanings.{BestTreesMeanTheirSets}
use Rattle.laws_trees.proofs.StepCounts.{steps_make_best_trees_lem}

-- 1. each number below n stands once among them
abbrev weight : ℕ → ℕ → ℕ
weight i j = cond (j == i) 1 0

other : (i j : ℕ) → (j ≡ i → ⊥) → weight i j ≡ 0
other i j f = elim (cases_Bool (j == i)) [ inl t ↦ absurd (f (eqb-true j i t)) | inr n ↦ ap (λ b. cond b 1 0) n ]

counted_more : (i n : ℕ) → count_by (λ j. j == i) (up_to (suc n)) ≡ count_by (λ j. j == i) (up_to n) + weight i n
counted_more i n = grind (arith, common_steps, sum_by-append, sum_by-cons)

none_counted : (i n : ℕ) → n ≤ i → count_by (λ j. j == i) (up_to n) ≡ 0
none_counted i zero l = refl
none_counted i (suc n) l = grind (arith, common_steps, none_counted i n, counted_more, other)

counted_once : (i n : ℕ) → i < n → count_by (λ j. j == i) (up_to n) ≡ 1
counted_once i zero l = absurd (omega arith)
counted_once i (suc n) l = grind (arith, common_steps, counted_once i n, counted_more, cases_lt, other, none_counted)

returns_each : (set : SiteSet) (tree : Tree) (m : Marked) → plain set.rules m ≡ tree → IsPermutation (up_to (length set.rules)) (marks m) → ReturnsEach set tree m
returns_each set tree m same moved = record {
  same = same;
  once = λ i l. sum_by-IsPermutation (weight i) (up_to (length set.rules)) (marks m) moved ∙ counted_once i (length set.rules) l;
  known = all_from_in (λ i. i < length set.rules) (marks m)
      (λ i k. from_up_to (length set.rules) i (Contains-permutation (marks m) (up_to (length set.rules)) i (IsPermutation-sym (up_to (length set.rules)) (marks m) moved) (contains_from_in (marks m) i k)));
}

-- 2. the tree
pub best_steps_serialize : BestTreesMeanTheirSets → (set : SiteSet) (tree : Tree) (m : Marked) → IsBuiltForSome set → plain set.rules m ≡ tree
    → IsPermutation (up_to (length set.rules)) (marks m) → BestSteps set nothing_around false m → IsSerialized set tree
best_steps_serialize means set tree m built same moved steps = grind (arith, common_steps, steps_make_best_trees_lem, returns_each)
