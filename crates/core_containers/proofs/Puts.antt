-- A list of sets in which one is written, and the places that are free then.
use Rattle.std.proofs.Common.{◌≡◌, ◌≢◌, ℕ, zero, suc, ◌+◌, ◌<◌, ◌≤◌, ◌==◌, Bool, cond, List, [], ◌∷◌, ◌++◌, length, count_by, get_or, slice_set, Option, Some, None, unwrap_or, refl, sym, ap, ◌∙◌, arith, Vec, inl, inr, slice_get, eq-eqb, ne_eqb}
use Rattle.std.specs.declared.alloc.Global.{Global}
use Rattle.std.proofs.lemmas.List.{length-map, map-set, map-append}
use Rattle.std.proofs.lemmas.List.Sums.{sum_by-set, sum_by_push}
use Rattle.std.proofs.lemmas.Bool.{cases_eq}
use Rattle.std.proofs.lemmas.Option.{unwrap_or-slice_get, slice_get_within, slice_get_past, get_or_from_slice_get}
use Rattle.core_containers.specs.Numbers.{IsPut, Vacant, vacancies, sets_of}

abbrev one_if : Bool → ℕ
one_if b = cond b 1 0

counted_more : (free : List ℕ) (i k : ℕ) → count_by (λ n. n == k) (free ++ i ∷ []) ≡ count_by (λ n. n == k) free + one_if (i == k)
counted_more free i k = sum_by_push (λ n. one_if (n == k)) free i

module _ {T : Type 0} where
  get_set_same : (xs : List (List T)) (i : ℕ) (y : List T) → i < length xs → slice_get (slice_set xs i y) i ≡ Some y
  get_set_same [] i y h = absurd (omega arith)
  get_set_same (x ∷ xs) zero y h = refl
  get_set_same (x ∷ xs) (suc i) y h = get_set_same xs i y (omega arith)

  get_set_other : (xs : List (List T)) (i k : ℕ) (y : List T) → k ≢ i → slice_get (slice_set xs i y) k ≡ slice_get xs k
  get_set_other [] i k y h = refl
  get_set_other (x ∷ xs) zero zero y h = absurd (h refl)
  get_set_other (x ∷ xs) zero (suc k) y h = refl
  get_set_other (x ∷ xs) (suc i) zero y h = refl
  get_set_other (x ∷ xs) (suc i) (suc k) y h = get_set_other xs i k y (λ e. h (ap suc e))

  get_push_here : (xs : List (List T)) (y : List T) → slice_get (xs ++ y ∷ []) (length xs) ≡ Some y
  get_push_here [] y = refl
  get_push_here (x ∷ xs) y = get_push_here xs y

  get_push_other : (xs : List (List T)) (k : ℕ) (y : List T) → k ≢ length xs → slice_get (xs ++ y ∷ []) k ≡ slice_get xs k
  get_push_other [] zero y h = absurd (h refl)
  get_push_other [] (suc k) y h = refl
  get_push_other (x ∷ xs) zero y h = refl
  get_push_other (x ∷ xs) (suc k) y h = get_push_other xs k y (λ e. h (ap suc e))

  -- the two ways to write one
  set_put : (xs : List (List T)) (i : ℕ) (y : List T) → i < length xs → IsPut xs (slice_set xs i y) i y
  set_put xs i y h = record { here = get_set_same xs i y h; others = λ k ne. get_set_other xs i k y ne; total = sum_by-set length xs i y [] h }

  past : (xs : List (List T)) → get_or xs (length xs) [] ≡ []
  past xs = sym (unwrap_or-slice_get xs (length xs) []) ∙ ap (λ o. unwrap_or o []) (slice_get_past xs (length xs) (omega arith))

  push_put : (xs : List (List T)) (y : List T) → IsPut xs (xs ++ y ∷ []) (length xs) y
  push_put xs y =
      let e = past xs in
      let n : length (get_or xs (length xs) []) ≡ 0 = ap length e in
      record { here = get_push_here xs y; others = λ k ne. get_push_other xs k y ne; total = omega (arith, n, sum_by_push length xs y) }

  -- the same where vectors hold the sets
  pub vector_put : (vs : List (Vec T Global)) (i : ℕ) (v : Vec T Global) → i < length vs → IsPut (sets_of vs) (sets_of (slice_set vs i v)) i v.items
  vector_put vs i v h =
      let within : i < length (sets_of vs) = omega (arith, length-map vs (λ w. w.items)) in
      rw (map-set (λ w. w.items) vs i v) (set_put (sets_of vs) i v.items within)

  pub vector_put_as : (vs : List (Vec T Global)) (i : ℕ) (v : Vec T Global) (s : List T) → i < length vs → v.items ≡ s → IsPut (sets_of vs) (sets_of (slice_set vs i v)) i s
  vector_put_as vs i v s h e = rw (← e) (vector_put vs i v h)

  pub vector_pushed : (vs : List (Vec T Global)) (v : Vec T Global) → IsPut (sets_of vs) (sets_of (vs ++ v ∷ [])) (length vs) v.items
  vector_pushed vs v = rw (map-append (λ w. w.items) vs (v ∷ []), ← length-map vs (λ w. w.items)) (push_put (sets_of vs) v.items)

  -- a vector that holds the same set may take another's place
  pub same_sets : (vs : List (Vec T Global)) (i : ℕ) (v d : Vec T Global) → v.items ≡ (get_or vs i d).items → sets_of (slice_set vs i v) ≡ sets_of vs
  same_sets [] i v d e = refl
  same_sets (w ∷ vs) zero v d e = ap (λ s. s ∷ sets_of vs) e
  same_sets (w ∷ vs) (suc i) v d e = ap (λ ss. w.items ∷ ss) (same_sets vs i v d e)

  module _ {xs ys : List (List T)} {i : ℕ} {y : List T} (p : IsPut xs ys i y) where
    pub put_here : get_or ys i [] ≡ y
    put_here = get_or_from_slice_get ys i y [] p.here

    pub put_other : (k : ℕ) → k ≢ i → get_or ys k [] ≡ get_or xs k []
    put_other k ne = sym (unwrap_or-slice_get ys k []) ∙ ap (λ o. unwrap_or o []) (p.others k ne) ∙ unwrap_or-slice_get xs k []

  -- ---- free places
  pub vacancies_few : (o : Option (List T)) → vacancies o ≤ 1
  vacancies_few None = omega arith
  vacancies_few (Some []) = omega arith
  vacancies_few (Some (x ∷ s)) = omega arith

  pub vacancies_filled : (s : List T) → 0 < length s → vacancies (Some s) ≡ 0
  vacancies_filled [] h = absurd (omega arith)
  vacancies_filled (x ∷ s) h = refl

  free_is : (o : Option (List T)) → 0 < vacancies o → o ≡ Some []
  free_is None h = absurd (omega arith)
  free_is (Some []) h = refl
  free_is (Some (x ∷ s)) h = absurd (omega arith)

  -- the last free place holds an empty set
  pub free_place : (before after : List ℕ) (i : ℕ) (xs : List (List T)) → before ≡ after ++ i ∷ [] → Vacant before xs → slice_get xs i ≡ Some []
  free_place before after i xs e v =
      let one : count_by (λ n. n == i) before ≡ count_by (λ n. n == i) after + one_if (i == i) = ap (count_by (λ n. n == i)) e ∙ counted_more after i i in
      let here : one_if (i == i) ≡ 1 = ap one_if (eq-eqb i i refl) in
      free_is (slice_get xs i) (omega (arith, one, here, v i))

  pub free_within : (xs : List (List T)) (i : ℕ) → slice_get xs i ≡ Some [] → i < length xs
  free_within xs i e = slice_get_within xs i [] e

  module _ {xs ys : List (List T)} {i : ℕ} {y : List T} (p : IsPut xs ys i y) where
    pub vacant_popped : (before after : List ℕ) → before ≡ after ++ i ∷ [] → 0 < length y → Vacant before xs → Vacant after ys
    vacant_popped before after e filled v k =
        let more : count_by (λ n. n == k) before ≡ count_by (λ n. n == k) after + one_if (i == k) = ap (count_by (λ n. n == k)) e ∙ counted_more after i k in
        elim (cases_eq k i) [
          | inl same ↦
              let here : one_if (i == k) ≡ 1 = ap one_if (eq-eqb i k (sym same)) in
              let full : vacancies (slice_get ys k) ≡ 0 = ap (λ j. vacancies (slice_get ys j)) same ∙ ap vacancies p.here ∙ vacancies_filled y filled in
              omega (arith, more, here, full, v k, vacancies_few (slice_get xs k))
          | inr ne ↦
              let other : one_if (i == k) ≡ 0 = ap one_if (ne_eqb i k (λ e. ne (sym e))) in
              let kept : vacancies (slice_get ys k) ≡ vacancies (slice_get xs k) = ap vacancies (p.others k ne) in
              omega (arith, more, other, kept, v k)
        ]

    -- a set that isn't empty is written over one, or at a new place
    pub vacant_kept : (free : List ℕ) → vacancies (slice_get xs i) ≡ 0 → 0 < length y → Vacant free xs → Vacant free ys
    vacant_kept free before filled v k =
        elim (cases_eq k i) [
          | inl same ↦ v k ∙ ap (λ j. vacancies (slice_get xs j)) same ∙ before ∙ sym (vacancies_filled y filled) ∙ sym (ap vacancies p.here) ∙ sym (ap (λ j. vacancies (slice_get ys j)) same)
          | inr ne ↦ v k ∙ sym (ap vacancies (p.others k ne))
        ]

    -- an empty set is written over one that wasn't
    pub vacant_freed : (free : List ℕ) → y ≡ [] → vacancies (slice_get xs i) ≡ 0 → Vacant free xs → Vacant (free ++ i ∷ []) ys
    vacant_freed free empty before v k =
        elim (cases_eq k i) [
          | inl same ↦
              let here : one_if (i == k) ≡ 1 = ap one_if (eq-eqb i k (sym same)) in
              let was : vacancies (slice_get xs k) ≡ 0 = ap (λ j. vacancies (slice_get xs j)) same ∙ before in
              let now : vacancies (slice_get ys k) ≡ 1 = ap (λ j. vacancies (slice_get ys j)) same ∙ ap vacancies p.here ∙ ap (λ s. vacancies (Some s)) empty in
              omega (arith, counted_more free i k, here, was, now, v k)
          | inr ne ↦
              let other : one_if (i == k) ≡ 0 = ap one_if (ne_eqb i k (λ e. ne (sym e))) in
              let kept : vacancies (slice_get ys k) ≡ vacancies (slice_get xs k) = ap vacancies (p.others k ne) in
              omega (arith, counted_more free i k, other, kept, v k)
        ]

  vacancies_of : (xs : List (List T)) (i : ℕ) → 0 < length (get_or xs i []) → vacancies (slice_get xs i) ≡ 0
  vacancies_of [] i h = absurd (omega arith)
  vacancies_of (x ∷ xs) zero h = vacancies_filled x h
  vacancies_of (x ∷ xs) (suc i) h = vacancies_of xs i h

  pub vacancies_at : (xs : List (List T)) (i : ℕ) → 0 < length (get_or xs i []) → vacancies (slice_get xs i) ≡ 0
  vacancies_at = vacancies_of

  pub vacancies_past : (xs : List (List T)) (i : ℕ) → length xs ≤ i → vacancies (slice_get xs i) ≡ 0
  vacancies_past xs i h = ap vacancies (slice_get_past xs i h)

  pub within_filled : (xs : List (List T)) (i : ℕ) → 0 < length (get_or xs i []) → i < length xs
  within_filled [] i h = absurd (omega arith)
  within_filled (x ∷ xs) zero h = omega arith
  within_filled (x ∷ xs) (suc i) h = omega (arith, within_filled xs i h)
