-- Priorities, and what a cover that is a step's rules says of them.
use Rattle.std.proofs.Common.{◌≡◌, ℕ, ℤ, Bool, true, false, not, ◌||◌, List, [], ◌∷◌, ◌++◌, Some, slice_get, Contains, filter, sym, ap, ◌∙◌, subst, arith, int_cmp, is_lt, Ordering, ◌≤ℤ◌, ◌<ℤ◌}
use Rattle.std.specs.List.{list_all}
use Rattle.std.proofs.lemmas.Bool.{cond-true, and_parts, and_from, or_cases, or_right, false≢true, or_parts}
use Rattle.std.proofs.lemmas.Int.{ints}
use Rattle.std.proofs.lemmas.List.Elements.{Contains-append_right}
use Rattle.std.specs.Cmp.{int_ranks}
use Rattle.std.specs.Ordering.{MatchOrdering}
use Rattle.std.proofs.lemmas.Grind.{common_steps}
use Rattle.laws_trees.proofs.runs.ChosenRules.{through}
use Rattle.model.specs.sites.Sites.{SetRule}
use Rattle.model.specs.trees.Sound.{NoneHigher}
use Rattle.model.specs.trees.Tests.{Test, priority, needs_at, is_lower, is_covered, cover, needs, is_needed}
use Rattle.model.specs.trees.Best.{comes_first, descend}
use Rattle.model.proofs.Members.{nothing_in, in_head, in_tail, in_cases, in_filter, from_filter, each_passes, all_pass}
use Rattle.laws_trees.proofs.JudgeExactness.{not_exact}
use Rattle.model.proofs.Priorities.{at_most, at_least}

-- 1. priorities
not_lower_of : (x y : ℤ) (o : Ordering) → MatchOrdering o (x <ℤ y) (x ≡ y) (y <ℤ x) → y ≤ℤ x → is_lt o ≡ false
not_lower_of x y o h l = grind (arith, common_steps, ints)

module _ (rules : List SetRule) where
  abbrev pub prio_at : ℕ → ℤ
  prio_at i = priority (slice_get rules i)

  pub lower_at_most : (i j : ℕ) → is_lower rules i j ≡ true → prio_at i ≤ℤ prio_at j
  lower_at_most i j h = at_most (prio_at i) (prio_at j) (int_cmp (prio_at i) (prio_at j)) (int_ranks (prio_at i) (prio_at j)) h

  pub not_lower_at_least : (i j : ℕ) → is_lower rules i j ≡ false → prio_at j ≤ℤ prio_at i
  not_lower_at_least i j h = at_least (prio_at i) (prio_at j) (int_cmp (prio_at i) (prio_at j)) (int_ranks (prio_at i) (prio_at j)) h

  pub at_least_not_lower : (i j : ℕ) → prio_at j ≤ℤ prio_at i → is_lower rules i j ≡ false
  at_least_not_lower i j h = not_lower_of (prio_at i) (prio_at j) (int_cmp (prio_at i) (prio_at j)) (int_ranks (prio_at i) (prio_at j)) h

  itself : (x : ℤ) → x ≤ℤ x
  itself x = omega (arith, ints)

  pub first_at_least : (i j : ℕ) → comes_first rules i j ≡ true → prio_at j ≤ℤ prio_at i
  first_at_least i j h = grind (arith, common_steps, or_cases, lower_at_most, and_parts, itself)

  -- what stands first of rules that descend is at least as high as each
  pub first_is_top : (i : ℕ) (later : List ℕ) → descend rules (i ∷ later) ≡ true → (j : ℕ) → Contains (i ∷ later) j → prio_at j ≤ℤ prio_at i
  first_is_top i later h j c = grind (arith, common_steps, in_cases, itself, first_at_least, each_passes, and_parts)

  pub descend_rest : (i : ℕ) (later : List ℕ) → descend rules (i ∷ later) ≡ true → descend rules later ≡ true
  descend_rest i later h = (and_parts (list_all (comes_first rules i) later) (descend rules later) h).1

  prio_is : (i : ℕ) (r : SetRule) → slice_get rules i ≡ Some r → prio_at i ≡ r.prio
  prio_is i r e = ap priority e

  pub none_higher : (here later : List ℕ) → ((i j : ℕ) → Contains here i → Contains later j → prio_at j ≤ℤ prio_at i) → NoneHigher rules here later
  none_higher here later h i j r s c d e f = subst (λ x. s.prio ≤ℤ x) (prio_is i r e) (subst (λ x. x ≤ℤ prio_at i) (prio_is j s f) (h i j c d))

-- 2. a filter that keeps the first list keeps nothing of the second
module _ (p : ℕ → Bool) where
  pub kept_passes : (xs ys : List ℕ) → filter p (xs ++ ys) ≡ xs → (x : ℕ) → Contains xs x → p x ≡ true
  kept_passes xs ys e x c = (from_filter p (xs ++ ys) x (subst (λ l. Contains l x) (sym e) c)).1

  tail_same : (x y : ℕ) (xs ys : List ℕ) → ◌≡◌ {A = List ℕ} (x ∷ xs) (y ∷ ys) → xs ≡ ys
  tail_same x y xs ys e = ap (λ l. elim l [ [] ↦ [] | z ∷ zs ↦ zs ]) e

  pub rest_fails : (xs ys : List ℕ) → filter p (xs ++ ys) ≡ xs → (y : ℕ) → Contains ys y → p y ≡ false
  rest_fails [] ys e y c = grind (arith, common_steps, nothing_in y, in_filter p ys y c)
  rest_fails (x ∷ xs) ys e y c =
      let t = kept_passes (x ∷ xs) ys e x (in_head x xs) in
      rest_fails xs ys (tail_same x x (filter p (xs ++ ys)) xs (sym (cond-true (p x) (x ∷ filter p (xs ++ ys)) (filter p (xs ++ ys)) t) ∙ e)) y c

-- 3. covers
some_fails : (p : ℕ → Bool) (xs : List ℕ) → list_all p xs ≡ false → (x : ℕ) × Contains xs x × (p x ≡ false)
some_fails p [] h = absurd (false≢true (sym h))
some_fails p (x ∷ xs) h = grind (arith, common_steps, some_fails p xs, in_tail, in_head, and_from)

module _ (rules : List SetRule) (t : Test) where
  -- a rule that is not needed by the test is no higher than a covered one
  covered_over : (here : List ℕ) (i j : ℕ) → is_covered rules here t i ≡ true → Contains here j → needs_at rules t j ≡ false → prio_at rules j ≤ℤ prio_at rules i
  covered_over here i j h c n = grind (arith, common_steps, and_parts, or_cases, each_passes, not_lower_at_least, not_exact)

  later_lower : (here : List ℕ) (i j : ℕ) → is_covered rules here t i ≡ true → Contains here j → is_covered rules here t j ≡ false → prio_at rules j ≤ℤ prio_at rules i
  later_lower here i j h c f = grind (arith, common_steps, covered_over, some_fails, or_parts, through, lower_at_most, and_from)

  pub cover_over : (here later : List ℕ) → cover rules (here ++ later) t ≡ here → NoneHigher rules here later
  cover_over here later e =
      none_higher rules here later (λ i j c d.
      later_lower (here ++ later) i j (kept_passes (is_covered rules (here ++ later) t) here later e i c) (Contains-append_right here later j d) (rest_fails (is_covered rules (here ++ later) t) here later e j d))

  pub cover_needs : (here later : List ℕ) → cover rules (here ++ later) t ≡ here → (i : ℕ) → Contains here i → needs_at rules t i ≡ true
  cover_needs here later e i c =
      (and_parts (needs_at rules t i) (list_all (λ k. needs_at rules t k || not (is_lower rules i k)) (here ++ later)) (kept_passes (is_covered rules (here ++ later) t) here later e i c)).0

  -- a rule that needs the test, and than which none is higher, is covered
  pub top_is_covered : (here : List ℕ) (i : ℕ) → Contains here i → needs_at rules t i ≡ true → ((j : ℕ) → Contains here j → prio_at rules j ≤ℤ prio_at rules i) → Contains (cover rules here t) i
  top_is_covered here i c n top =
      in_filter (is_covered rules here t) here i c
      (and_from (needs_at rules t i) (list_all (λ k. needs_at rules t k || not (is_lower rules i k)) here) n
      (all_pass (λ k. needs_at rules t k || not (is_lower rules i k)) here (λ k d.
      or_right (needs_at rules t k) (not (is_lower rules i k)) ((not_exact (is_lower rules i k)).1 (at_least_not_lower rules i k (top k d))))))

-- what a test that is made gives
pub needed_here : (rules : List SetRule) (here later : List ℕ) (t : Test) → cover rules (here ++ later) t ≡ here → (i : ℕ) (r : SetRule) → Contains here i → slice_get rules i ≡ Some r → needs t r ≡ true
needed_here rules here later t e i r c at = sym (ap (is_needed t) at) ∙ cover_needs rules t here later e i c
