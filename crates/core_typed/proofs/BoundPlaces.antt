-- Entries of variables that ascend: what is found at a place, and what binding a variable there makes.
use Rattle.std.proofs.Common.{◌≡◌, ℕ, zero, suc, ◌+◌, ◌<◌, ◌-◌, cond, List, [], ◌∷◌, length, drop, get_or, Some, None, Result, MatchResult, refl, sym, ap, ◌∙◌, arith, set, false, slice_get}
use Rattle.std.specs.List.{AllByRecursion, insert}
use Rattle.std.specs.List.Sorted.{IsBinarySearchResult, IsNonDecreasingBy, IsSearchInRange, IsStrictlySortedBy}
use Rattle.std.specs.Ordering.{nat_cmp, is_eq, is_le, match_ordering, ordering_index, ordering_reverse}
use Rattle.std.specs.declared.cmp.Ordering.TheVariants.{Less, Equal, Greater}
use Rattle.std.specs.Cmp.{nat_cmp_is, ranks}
use Rattle.std.proofs.lemmas.Bool.{false≢true}
use Rattle.std.proofs.lemmas.List.{drop_more}
use Rattle.std.proofs.lemmas.Option.{get_or_from_slice_get}
use Rattle.std.proofs.lemmas.Bool.Decides.{nat_tests}
use Rattle.std.proofs.lemmas.Cmp.{by_ranked, nat_cmp_total, ranked}
use Rattle.std.proofs.lemmas.Map.Keys.{below_from_sorted, sorted_tail}
use Rattle.std.proofs.lemmas.Grind.{common_steps}
use Rattle.core_types.specs.declared.ids.VarId.{VarId}
use Rattle.model.specs.visits.Runs.{BoundIds, bound_at, bound_vars, with_bound}
use Rattle.core_typed.specs.BoundEntries.{FitsAt, StandsAt, by_number}

is_less : (x y : ℕ) → x < y → nat_cmp x y ≡ Less
is_less x y l = sym (nat_cmp_is x y Less l)

is_equal : (x y : ℕ) → x ≡ y → nat_cmp x y ≡ Equal
is_equal x y e = sym (nat_cmp_is x y Equal e)

is_greater : (x y : ℕ) → y < x → nat_cmp x y ≡ Greater
is_greater x y l = sym (nat_cmp_is x y Greater l)

abbrev Entries : Type 0 → Type 0
Entries P = List (VarId × P)

abbrev numbers : {P : Type 0} → Entries P → List ℕ
numbers vs = bound_vars (by_number vs)

pub none_ascend : IsStrictlySortedBy nat_cmp []
unfolding IsStrictlySortedBy
none_ascend = tt

above_all : (x n : ℕ) (ks : List ℕ) → nat_cmp x n ≡ Less → AllByRecursion (λ y. nat_cmp n y ≡ Less) ks → AllByRecursion (λ y. nat_cmp x y ≡ Less) ks
above_all x n [] l a = tt
above_all x n (k ∷ ks) l a = (nat_cmp_total.trans x n k l a.0, above_all x n ks l a.1)

is_past : (x y : ℕ) → false ≡ is_le (nat_cmp x y) → y < x
is_past x y f = by_ranked (x < y) (x ≡ y) (y < x) (nat_cmp x y) (ranks x y) (λ e l. absurd (false≢true (f ∙ ap is_le e))) (λ e q. absurd (false≢true (f ∙ ap is_le e))) (λ e l. l)

module _ {P : Type 0} where
  -- 1. by places
  number_at : (vs : Entries P) (k : ℕ) (d : VarId × P) → get_or (numbers vs) k d.0.0 ≡ (get_or vs k d).0.0
  number_at (b ∷ vs) (suc k) d = number_at vs k d
  number_at _ _ d = refl

  as_many : (vs : Entries P) → length (numbers vs) ≡ length vs
  as_many [] = refl
  as_many (b ∷ vs) = ap suc (as_many vs)

  -- the number of a later variable is greater
  ascends : (vs : Entries P) → IsStrictlySortedBy nat_cmp (numbers vs) → (i j : ℕ) (d : VarId × P) → i < j → j < length vs → (get_or vs i d).0.0 < (get_or vs j d).0.0
  ascends vs s i j d l m = rw (sym (number_at vs i d), sym (number_at vs j d)) (below_from_sorted (numbers vs) i j d.0.0 s l (rw (as_many vs) m))

  rest_stands : (b : VarId × P) (vs : Entries P) (x i : ℕ) → StandsAt (b ∷ vs) x (suc i) → StandsAt vs x i
  rest_stands b vs x i h = (omega (arith, h.0), h.1)

  rest_fits : (b : VarId × P) (vs : Entries P) (x i : ℕ) → FitsAt (b ∷ vs) x (suc i) → FitsAt vs x i
  rest_fits b vs x i h = (omega (arith, h.0), (λ k d l. h.1 (suc k) d (omega arith)), (λ k d l m. h.2 (suc k) d (omega arith) (omega arith)))

  first_less : (b : VarId × P) (vs : Entries P) (x i : ℕ) → IsStrictlySortedBy nat_cmp (numbers (b ∷ vs)) → StandsAt (b ∷ vs) x (suc i) → b.0.0 < x
  first_less b vs x i s h = rw (sym (h.1 b)) (ascends (b ∷ vs) s 0 (suc i) b (omega arith) h.0)

  -- 2. what is found
  pub found_there : (vs : Entries P) (x i : ℕ) (d : VarId × P) → IsStrictlySortedBy nat_cmp (numbers vs) → StandsAt vs x i → bound_at (by_number vs) x ≡ Some (get_or vs i d).1
  found_there [] x i d s h = absurd (omega (arith, h.0))
  found_there (b ∷ vs) x zero d s h = ap (λ o. cond (is_eq o) (Some b.1) (bound_at (by_number vs) x)) (is_equal x b.0.0 (sym (h.1 d)))
  found_there (b ∷ vs) x (suc i) d s h =
      ap (λ o. cond (is_eq o) (Some b.1) (bound_at (by_number vs) x)) (is_greater x b.0.0 (first_less b vs x i s h))
      ∙ found_there vs x i d (sorted_tail nat_cmp b.0.0 (numbers vs) s) (rest_stands b vs x i h)

  pub none_there : (vs : Entries P) (x i : ℕ) → FitsAt vs x i → bound_at (by_number vs) x ≡ None
  none_there [] x i h = refl
  none_there (b ∷ vs) x zero h =
      ap (λ o. cond (is_eq o) (Some b.1) (bound_at (by_number vs) x)) (is_less x b.0.0 (h.2 0 b (omega arith) (omega arith)))
      ∙ none_there vs x 0 (omega arith, (λ k d l. absurd (omega arith)), (λ k d l m. h.2 (suc k) d (omega arith) (omega arith)))
  none_there (b ∷ vs) x (suc i) h = grind (arith, common_steps, none_there vs x i (rest_fits b vs x i h), is_greater x b.0.0, rest_fits b vs x i h, h.1 0 b)

  -- 3. what binding makes
  pub bound_there : (vs : Entries P) (x : VarId) (id : P) (i : ℕ) → IsStrictlySortedBy nat_cmp (numbers vs) → StandsAt vs x.0 i → by_number (set vs i (x, id)) ≡ with_bound (by_number vs) x.0 id
  bound_there [] x id i s h = absurd (omega (arith, h.0))
  bound_there (b ∷ vs) x id zero s h = grind (arith, common_steps, is_equal x.0 b.0.0 (sym (h.1 b)))
  bound_there (b ∷ vs) x id (suc i) s h =
      ap (λ l. (b.0.0, b.1) ∷ l) (bound_there vs x id i (sorted_tail nat_cmp b.0.0 (numbers vs) s) (rest_stands b vs x.0 i h))
      ∙ sym (ap (λ o. match_ordering o ((x.0, id) ∷ by_number (b ∷ vs)) ((b.0.0, id) ∷ by_number vs) ((b.0.0, b.1) ∷ with_bound (by_number vs) x.0 id)) (is_greater x.0 b.0.0 (first_less b vs x.0 i s h)))

  pub bound_between : (vs : Entries P) (x : VarId) (id : P) (i : ℕ) → FitsAt vs x.0 i → by_number (insert vs i (x, id)) ≡ with_bound (by_number vs) x.0 id
  bound_between [] x id zero h = refl
  bound_between [] x id (suc i) h = absurd (omega (arith, h.0))
  bound_between (b ∷ vs) x id zero h = grind (arith, common_steps, is_less x.0 b.0.0, x.0, b.0.0, b.1, h.2 0 b)
  bound_between (b ∷ vs) x id (suc i) h =
      ap (λ l. (b.0.0, b.1) ∷ l) (bound_between vs x id i (rest_fits b vs x.0 i h))
      ∙ sym (ap (λ o. match_ordering o ((x.0, id) ∷ by_number (b ∷ vs)) ((b.0.0, id) ∷ by_number vs) ((b.0.0, b.1) ∷ with_bound (by_number vs) x.0 id)) (is_greater x.0 b.0.0 (h.1 0 b (omega arith))))

  above_with : (n x : ℕ) (id : P) (vs : BoundIds P) → nat_cmp n x ≡ Less → AllByRecursion (λ y. nat_cmp n y ≡ Less) (bound_vars vs) → AllByRecursion (λ y. nat_cmp n y ≡ Less) (bound_vars (with_bound vs x id))
  above_with n x id [] l a = (l, a)
  above_with n x id (b ∷ vs) l a = grind (arith, common_steps, above_with n x id vs l a.1)

  -- they still ascend
  pub ascends_with : (vs : BoundIds P) (x : ℕ) (id : P) → IsStrictlySortedBy nat_cmp (bound_vars vs) → IsStrictlySortedBy nat_cmp (bound_vars (with_bound vs x id))
  unfolding IsStrictlySortedBy
  ascends_with [] x id s = (tt, tt)
  ascends_with (b ∷ vs) x id s =
      elim (nat_cmp x b.0) as (λ o. nat_cmp x b.0 ≡ o → IsStrictlySortedBy nat_cmp (bound_vars (match_ordering o ((x, id) ∷ b ∷ vs) ((b.0, id) ∷ vs) (b ∷ with_bound vs x id)))) [
        | Less ↦ λ e. ((e, above_all x b.0 (bound_vars vs) e s.0), s)
        | Equal ↦ λ e. s
        | Greater ↦ λ e. (above_with b.0 x id vs (nat_cmp_total.antisymm b.0 x ∙ ap ordering_reverse e) s.0, ascends_with vs x id s.1)
      ] refl

  -- 4. what a search by halves gives
  rises : (vs : Entries P) (x : ℕ) → IsStrictlySortedBy nat_cmp (numbers vs) → IsNonDecreasingBy (λ e. ordering_index (nat_cmp e.0.0 x)) vs
  rises vs x s i j d le l = grind (arith, common_steps, ascends vs s i j d, nat_tests)

  pub searched : (vs : Entries P) (x : ℕ) (r : Result ℕ ℕ) → IsStrictlySortedBy nat_cmp (numbers vs) → IsSearchInRange r (length vs)
      → IsBinarySearchResult (λ e. nat_cmp e.0.0 x) vs r → MatchResult r (StandsAt vs x) (FitsAt vs x)
  searched vs x r s l equal = grind (arith, ranked, rises)

  -- a variable past the last fits at the end
  pub past_last : (vs : Entries P) (x : ℕ) (last : VarId × P) → IsStrictlySortedBy nat_cmp (numbers vs) → slice_get vs (length vs - 1) ≡ Some last → false ≡ is_le (nat_cmp x last.0.0) → FitsAt vs x (length vs)
  past_last vs x last s at f = grind (arith, get_or_from_slice_get, is_past, ascends)

  -- 5. one after another
  pub next_entry : (vs : Entries P) (i : ℕ) (e : VarId × P) → i < length vs → e ≡ get_or vs i e → by_number (drop i vs) ≡ (e.0.0, e.1) ∷ by_number (drop (i + 1) vs)
  next_entry vs i e l is = ap by_number (drop_more vs i e l) ∙ ap (λ d. (d.0.0, d.1) ∷ by_number (drop (i + 1) vs)) (sym is)
