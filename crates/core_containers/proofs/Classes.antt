-- Sets by their numbers.
use Rattle.std.proofs.Common.{◌≡◌, ◌≢◌, ℕ, ◌+◌, ◌<◌, ◌==◌, Bool, true, false, cond, ◌||◌, ◌&&◌, List, [], ◌∷◌, ◌++◌, length, get_or, Option, Some, None, refl, sym, ap, ◌∙◌, arith, Vec, inl, inr, is_some, eq-eqb, ne_eqb, eqb-true, length-append}
use Rattle.std.specs.declared.alloc.Global.{Global}
use Rattle.std.specs.Cmp.{IsEquivalence}
use Rattle.std.specs.List.{IsDistinct, AllByRecursion}
use Rattle.std.proofs.lemmas.List.{get_or-map}
use Rattle.std.proofs.lemmas.List.Folds.{list_any-append}
use Rattle.std.proofs.lemmas.Map.Keys.{IsDistinct-push}
use Rattle.std.proofs.lemmas.Map.Steps.{list_any_congr}
use Rattle.std.proofs.lemmas.Bool.{cases_eq, false≢true, or_parts, or_left, or_right, or_from}
use Rattle.std.proofs.Math.Bool.{or-false}
use Rattle.core_containers.specs.Partition.{in_set}
use Rattle.core_containers.specs.Numbers.{same_number, sets_of, IsNumbered, IsPut, Numbering, Vacant}
use Rattle.core_containers.proofs.Puts.{put_here, put_other, vacant_kept, vacant_freed, vacancies_at}

-- a set as the vector that keeps it
pub at_view : {T : Type 0} (vs : List (Vec T Global)) (k : ℕ) (v : Vec T Global) → k < length vs → v ≡ get_or vs k v → get_or (sets_of vs) k [] ≡ v.items
at_view vs k v h e = get_or-map (λ w. w.items) vs k v [] h ∙ ap (λ w. w.items) (sym e)

-- ---- numbers
pub same_is : (o p : Option ℕ) → same_number o p ≡ true → o ≡ p
same_is None p e = absurd (false≢true e)
same_is (Some a) None e = absurd (false≢true e)
same_is (Some a) (Some b) e = ap Some (eqb-true a b e)

pub same_at : (o : Option ℕ) (k : ℕ) → o ≡ Some k → same_number o (Some k) ≡ true
same_at o k e = ap (λ p. same_number p (Some k)) e ∙ eq-eqb k k refl

pub same_symm : (o p : Option ℕ) → same_number o p ≡ same_number p o
same_symm None None = refl
same_symm None (Some b) = refl
same_symm (Some a) None = refl
same_symm (Some a) (Some b) = elim (cases_eq a b) [ inl e ↦ eq-eqb a b e ∙ sym (eq-eqb b a (sym e)) | inr ne ↦ ne_eqb a b ne ∙ sym (ne_eqb b a (λ e. ne (sym e))) ]

pub same_other : (a b : ℕ) → a ≢ b → same_number (Some a) (Some b) ≡ false
same_other a b ne = ne_eqb a b ne

same_everywhere : (o p : Option ℕ) → ((k : ℕ) → same_number o (Some k) ≡ same_number p (Some k)) → o ≡ p
same_everywhere None None h = refl
same_everywhere None (Some b) h = absurd (false≢true (h b ∙ eq-eqb b b refl))
same_everywhere (Some a) None h = absurd (false≢true (sym (h a) ∙ eq-eqb a a refl))
same_everywhere (Some a) (Some b) h = ap Some (sym (eqb-true b a (sym (h a) ∙ eq-eqb a a refl)))

-- ---- the number of one item, when the number b becomes a
into_first : (a b : ℕ) (o : Option ℕ) → (same_number o (Some a) || same_number o (Some b)) ≡ same_number (cond (same_number (Some b) o) (Some a) o) (Some a)
into_first a b None = refl
into_first a b (Some j) = elim (cases_eq b j) [
  | inl e ↦ rw (eq-eqb b j e, eq-eqb j b (sym e), eq-eqb a a refl) (or_right (j == a) true refl)
  | inr ne ↦ rw (ne_eqb b j ne, ne_eqb j b (λ e. ne (sym e))) (or-false (j == a))
]

out_of_second : (a b : ℕ) → a ≢ b → (o : Option ℕ) → false ≡ same_number (cond (same_number (Some b) o) (Some a) o) (Some b)
out_of_second a b ne None = refl
out_of_second a b ne (Some j) = elim (cases_eq b j) [
  | inl e ↦ rw (eq-eqb b j e) (sym (ne_eqb a b ne))
  | inr far ↦ rw (ne_eqb b j far) (sym (ne_eqb j b (λ e. far (sym e))))
]

elsewhere : (a b k : ℕ) → k ≢ a → k ≢ b → (o : Option ℕ) → same_number o (Some k) ≡ same_number (cond (same_number (Some b) o) (Some a) o) (Some k)
elsewhere a b k na nb None = refl
elsewhere a b k na nb (Some j) = elim (cases_eq b j) [
  | inl e ↦ rw (eq-eqb b j e) (ne_eqb j k (λ d. nb (sym d ∙ sym e)) ∙ sym (ne_eqb a k (λ d. na (sym d))))
  | inr far ↦ rw (ne_eqb b j far) refl
]

not_both : (a b : ℕ) → a ≢ b → (o : Option ℕ) → same_number o (Some a) ≡ true → same_number o (Some b) ≡ false
not_both a b ne None e = refl
not_both a b ne (Some j) e = ne_eqb j b (λ d. ne (sym (eqb-true j a e) ∙ d))

-- ---- and when the number c is no more
out_of_removed : (c : ℕ) (o : Option ℕ) → false ≡ same_number (cond (same_number o (Some c)) None o) (Some c)
out_of_removed c None = refl
out_of_removed c (Some j) = elim (cases_eq j c) [
  | inl e ↦ rw (eq-eqb j c e) refl
  | inr ne ↦ rw (ne_eqb j c ne) (sym (ne_eqb j c ne))
]

not_removed : (c k : ℕ) → k ≢ c → (o : Option ℕ) → same_number o (Some k) ≡ same_number (cond (same_number o (Some c)) None o) (Some k)
not_removed c k ne None = refl
not_removed c k ne (Some j) = elim (cases_eq j c) [
  | inl e ↦ rw (eq-eqb j c e) (ne_eqb j k (λ d. ne (sym d ∙ e)))
  | inr far ↦ rw (ne_eqb j c far) refl
]

none_distinct : {T : Type 0} (eq : T → T → Bool) → IsDistinct eq []
unfolding IsDistinct
none_distinct eq = tt

-- the new number of an item, as `renumber` gives it to those of a set
pub renumbered : (a b : ℕ) (o : Option ℕ) → cond (same_number o (Some b) && is_some o) (Some a) o ≡ cond (same_number (Some b) o) (Some a) o
renumbered a b None = refl
renumbered a b (Some j) = rw (same_symm (Some b) (Some j)) (elim (j == b) as (λ t. cond (t && true) (Some a) (Some j) ≡ cond t (Some a) (Some j)) [ true ↦ refl | false ↦ refl ])

pub same_self : (o : Option ℕ) → same_number o o ≡ is_some o
same_self None = refl
same_self (Some k) = eq-eqb k k refl

pub no_sets : {T : Type 0} (eq : T → T → Bool) (number : T → Option ℕ) (count : ℕ) (free : List ℕ) → ((x : T) → number x ≡ None) → count ≡ 0 → free ≡ [] → IsNumbered eq (record { number = number; count = count; free = free; sets = [] })
no_sets eq number count free e f h = record {
  numbered = λ x k. rw (e x) refl;
  counted = f;
  distinct = λ k. none_distinct eq;
  plural = λ k n. absurd (omega (arith, n));
  vacant = λ k. rw h refl;
}

module _ {T : Type 0} (eq : T → T → Bool) where
  pub nonempty : (s : List T) (x : T) → in_set eq s x ≡ true → 0 < length s
  nonempty [] x e = absurd (false≢true e)
  nonempty (y ∷ s) x e = omega arith

  none_equal : (x : T) (s : List T) → in_set eq s x ≡ false → AllByRecursion (λ y. eq x y ≡ false) s
  none_equal x [] e = tt
  none_equal x (y ∷ s) e = let p = or_parts (eq x y) (in_set eq s x) e in (p.0, none_equal x s p.1)

  -- two sets that share no item
  distinct_append : ((x : T) → eq x x ≡ true) → (s t : List T) → IsDistinct eq s → IsDistinct eq t → ((q : T) → in_set eq s q ≡ true → in_set eq t q ≡ false) → IsDistinct eq (s ++ t)
  unfolding IsDistinct
  distinct_append same [] t d e apart = e
  distinct_append same (x ∷ s) t d e apart =
      let first : in_set eq s x ≡ false = none_in x s d.0 in (
        none_equal x (s ++ t) (list_any-append (eq x) s t ∙ or_from (in_set eq s x) (in_set eq t x) first (apart x (or_left (eq x x) (in_set eq s x) (same x)))),
        distinct_append same s t d.1 e (λ q m. apart q (or_right (eq q x) (in_set eq s q) m)),
      )
    where
      none_in : (x : T) (s : List T) → AllByRecursion (λ y. eq x y ≡ false) s → in_set eq s x ≡ false
      none_in x [] a = refl
      none_in x (y ∷ s) a = or_from (eq x y) (in_set eq s x) a.0 (none_in x s a.1)

module _ {T : Type 0} {eq : T → T → Bool} {n : Numbering T} (p : IsNumbered eq n) where
  pub has : (x : T) (k : ℕ) → n.number x ≡ Some k → in_set eq (get_or n.sets k []) x ≡ true
  has x k e = p.numbered x k ∙ same_at (n.number x) k e

  pub has_some : (x : T) (k : ℕ) → n.number x ≡ Some k → 0 < length (get_or n.sets k [])
  has_some x k e = nonempty eq (get_or n.sets k []) x (has x k e)

  -- the same numbers, in another map
  pub numbered_same : (changed : T → Option ℕ) (count : ℕ) → ((q : T) → changed q ≡ n.number q) → count ≡ n.count
      → IsNumbered eq (record { number = changed; count = count; free = n.free; sets = n.sets })
  numbered_same changed count same same_count = record {
    numbered = λ q k. p.numbered q k ∙ ap (λ o. same_number o (Some k)) (sym (same q));
    counted = same_count ∙ p.counted;
    distinct = p.distinct;
    plural = p.plural;
    vacant = p.vacant;
  }

  module _ (laws : IsEquivalence eq) where
    -- equal items have one number
    pub alike : (a b : T) → eq a b ≡ true → n.number a ≡ n.number b
    alike a b e = same_everywhere (n.number a) (n.number b) (λ k. sym (p.numbered a k) ∙ list_any_congr laws a b (get_or n.sets k []) e ∙ p.numbered b k)

    -- ---- each operation keeps the tables fitting
    module _ {m : Numbering T} where
      -- a set of two new items, at a place that had none
      pub numbered_begin : (x y : T) (c : ℕ) → IsPut n.sets m.sets c (x ∷ y ∷ []) → get_or n.sets c [] ≡ [] → Vacant m.free m.sets
          → n.number x ≡ None → n.number y ≡ None → eq x y ≡ false
          → ((q : T) → m.number q ≡ cond (eq y q) (Some c) (cond (eq x q) (Some c) (n.number q))) → m.count ≡ n.count + 2
          → IsNumbered eq m
      unfolding IsDistinct
      numbered_begin x y c put before vacant nx ny apart moved more =
          let here = put_here put in
          record {
            numbered = λ q k. elim (cases_eq k c) [
              | inl same ↦
                  let was : false ≡ same_number (n.number q) (Some c) = ap (λ s. in_set eq s q) (sym before) ∙ p.numbered q c in
                  let at : (a b : Bool) → eq x q ≡ a → eq y q ≡ b → (a || (b || false)) ≡ same_number (cond b (Some c) (cond a (Some c) (n.number q))) (Some c) =
                  elim [
                    | true ↦ elim [ true ↦ λ d e. sym (eq-eqb c c refl) | false ↦ λ d e. sym (eq-eqb c c refl) ]
                    | false ↦ elim [ true ↦ λ d e. sym (eq-eqb c c refl) | false ↦ λ d e. was ]
                  ] in
                  rw (same, here, moved q, laws.symm q x, laws.symm q y) (at (eq x q) (eq y q) refl refl)
              | inr ne ↦
                  let old : in_set eq (get_or n.sets k []) q ≡ same_number (n.number q) (Some k) = p.numbered q k in
                  let far : same_number (Some c) (Some k) ≡ false = same_other c k (λ e. ne (sym e)) in
                  let at : (a b : Bool) → eq x q ≡ a → eq y q ≡ b → same_number (n.number q) (Some k) ≡ same_number (cond b (Some c) (cond a (Some c) (n.number q))) (Some k) =
                  let by_x : eq x q ≡ true → same_number (n.number q) (Some k) ≡ same_number (Some c) (Some k) = λ d. ap (λ o. same_number o (Some k)) (sym (alike x q d) ∙ nx) ∙ sym far in
                  let by_y : eq y q ≡ true → same_number (n.number q) (Some k) ≡ same_number (Some c) (Some k) = λ d. ap (λ o. same_number o (Some k)) (sym (alike y q d) ∙ ny) ∙ sym far in
                  elim [
                    | true ↦ elim [ true ↦ λ d e. by_x d | false ↦ λ d e. by_x d ]
                    | false ↦ elim [ true ↦ λ d e. by_y e | false ↦ λ d e. refl ]
                  ] in
                  rw (put_other put k ne, moved q) (old ∙ at (eq x q) (eq y q) refl refl)
            ];
            counted = let none : length (get_or n.sets c []) ≡ 0 = ap length before in omega (arith, put.total, none, more, p.counted);
            distinct = λ k. elim (cases_eq k c) [
              | inl same ↦ rw (same, here) ((apart, tt), (tt, tt))
              | inr ne ↦ rw (put_other put k ne) (p.distinct k)
            ];
            plural = λ k. elim (cases_eq k c) [
              | inl same ↦ rw (same, here) (λ e. absurd (omega arith))
              | inr ne ↦ rw (put_other put k ne) (p.plural k)
            ];
            vacant = vacant;
          }

      -- a new item, into a set that has some
      pub numbered_admit : (y : T) (c : ℕ) → IsPut n.sets m.sets c (get_or n.sets c [] ++ y ∷ []) → 0 < length (get_or n.sets c [])
          → n.number y ≡ None → ((q : T) → m.number q ≡ cond (eq y q) (Some c) (n.number q)) → m.count ≡ n.count + 1 → m.free ≡ n.free
          → IsNumbered eq m
      numbered_admit y c put some ny moved more unchanged =
          let s = get_or n.sets c [] in
          let here = put_here put in
          let long = length-append s (y ∷ []) in
          record {
            numbered = λ q k. elim (cases_eq k c) [
              | inl same ↦
                  let at : (b : Bool) → eq y q ≡ b → (in_set eq s q || (b || false)) ≡ same_number (cond b (Some c) (n.number q)) (Some c) =
                  elim [
                    | true ↦ λ e. or_right (in_set eq s q) true refl ∙ sym (eq-eqb c c refl)
                    | false ↦ λ e. elim (in_set eq s q) as (λ a. in_set eq s q ≡ a → (a || false) ≡ same_number (n.number q) (Some c)) [
                      | true ↦ λ m. sym m ∙ p.numbered q c
                      | false ↦ λ m. sym m ∙ p.numbered q c
                    ] refl
                  ] in
                  rw (same, here, list_any-append (eq q) s (y ∷ []), moved q, laws.symm q y) (at (eq y q) refl)
              | inr ne ↦
                  let far : same_number (Some c) (Some k) ≡ false = same_other c k (λ e. ne (sym e)) in
                  let at : (b : Bool) → eq y q ≡ b → same_number (n.number q) (Some k) ≡ same_number (cond b (Some c) (n.number q)) (Some k) =
                  elim [
                    | true ↦ λ d. ap (λ o. same_number o (Some k)) (sym (alike y q d) ∙ ny) ∙ sym far
                    | false ↦ λ d. refl
                  ] in
                  rw (put_other put k ne, moved q) (p.numbered q k ∙ at (eq y q) refl)
            ];
            counted = omega (arith, put.total, long, more, p.counted);
            distinct = λ k. elim (cases_eq k c) [
              | inl same ↦
                  let away : in_set eq s y ≡ false = p.numbered y c ∙ ap (λ o. same_number o (Some c)) ny in
                  rw (same, here) (IsDistinct-push laws s y (p.distinct c) away)
              | inr ne ↦ rw (put_other put k ne) (p.distinct k)
            ];
            plural = λ k. elim (cases_eq k c) [
              | inl same ↦ rw (same, here) (λ e. absurd (omega (arith, some, long, e)))
              | inr ne ↦ rw (put_other put k ne) (p.plural k)
            ];
            vacant = rw unchanged (vacant_kept put n.free (vacancies_at n.sets c some) (omega (arith, long)) p.vacant);
          }

      -- the members of one set go to the end of another, and its place becomes free
      pub numbered_unite : (middle : List (List T)) (a b : ℕ) → IsPut n.sets middle b [] → IsPut middle m.sets a (get_or n.sets a [] ++ get_or n.sets b []) → a ≢ b
          → 0 < length (get_or n.sets a []) → 0 < length (get_or n.sets b [])
          → ((q : T) → m.number q ≡ cond (same_number (Some b) (n.number q)) (Some a) (n.number q)) → m.count ≡ n.count → m.free ≡ n.free ++ b ∷ []
          → IsNumbered eq m
      numbered_unite middle a b emptied put ne first second moved same_count more_free =
          let s = get_or n.sets a [] in
          let t = get_or n.sets b [] in
          let ne' : b ≢ a = λ e. ne (sym e) in
          let here = put_here put in
          let kept : get_or middle a [] ≡ s = put_other emptied a ne in
          let gone : get_or m.sets b [] ≡ [] = put_other put b ne' ∙ put_here emptied in
          let other : (k : ℕ) → k ≢ a → k ≢ b → get_or m.sets k [] ≡ get_or n.sets k [] = λ k na nb. put_other put k na ∙ put_other emptied k nb in
          let long = length-append s t in
          let there : 0 < length (get_or middle a []) = rw kept first in
          record {
            numbered = λ q k. elim (cases_eq k a) [
              | inl same ↦
                  let at : (o : Option ℕ) → (same_number o (Some a) || same_number o (Some b)) ≡ same_number (cond (same_number (Some b) o) (Some a) o) (Some a) = into_first a b in
                  rw (same, here, list_any-append (eq q) s t, moved q, p.numbered q a, p.numbered q b) (at (n.number q))
              | inr na ↦ elim (cases_eq k b) [
                | inl same ↦ rw (same, gone, moved q) (out_of_second a b ne (n.number q))
                | inr nb ↦ rw (other k na nb, moved q) (p.numbered q k ∙ elsewhere a b k na nb (n.number q))
              ]
            ];
            counted =
                let kept_length : length (get_or middle a []) ≡ length s = ap length kept in
                omega (arith, emptied.total, put.total, kept_length, long, same_count, p.counted);
            distinct = λ k. elim (cases_eq k a) [
              | inl same ↦ rw (same, here) (distinct_append eq laws.refl s t (p.distinct a) (p.distinct b) (λ q m. p.numbered q b ∙ not_both a b ne (n.number q) (sym (p.numbered q a) ∙ m)))
              | inr na ↦ elim (cases_eq k b) [
                | inl same ↦ rw (same, gone) (none_distinct eq)
                | inr nb ↦ rw (other k na nb) (p.distinct k)
              ]
            ];
            plural = λ k. elim (cases_eq k a) [
              | inl same ↦ rw (same, here) (λ e. absurd (omega (arith, first, second, long, e)))
              | inr na ↦ elim (cases_eq k b) [
                | inl same ↦ rw (same, gone) (λ e. absurd (omega (arith, e)))
                | inr nb ↦ rw (other k na nb) (p.plural k)
              ]
            ];
            vacant =
                let freed : Vacant (n.free ++ b ∷ []) middle = vacant_freed emptied n.free refl (vacancies_at n.sets b second) p.vacant in
                rw more_free (vacant_kept put (n.free ++ b ∷ []) (vacancies_at middle a there) (omega (arith, first, long)) freed);
          }

      -- a set goes, and its place becomes free
      pub numbered_remove : (c : ℕ) → IsPut n.sets m.sets c [] → 0 < length (get_or n.sets c [])
          → ((q : T) → m.number q ≡ cond (in_set eq (get_or n.sets c []) q) None (n.number q)) → m.count + length (get_or n.sets c []) ≡ n.count → m.free ≡ n.free ++ c ∷ []
          → IsNumbered eq m
      numbered_remove c put some moved fewer more_free =
          let here = put_here put in
          record {
            numbered = λ q k. elim (cases_eq k c) [
              | inl same ↦ rw (same, here, moved q, p.numbered q c) (out_of_removed c (n.number q))
              | inr ne ↦ rw (put_other put k ne, moved q, p.numbered q c) (p.numbered q k ∙ not_removed c k ne (n.number q))
            ];
            counted = omega (arith, put.total, fewer, p.counted);
            distinct = λ k. elim (cases_eq k c) [
              | inl same ↦ rw (same, here) (none_distinct eq)
              | inr ne ↦ rw (put_other put k ne) (p.distinct k)
            ];
            plural = λ k. elim (cases_eq k c) [
              | inl same ↦ rw (same, here) (λ e. absurd (omega (arith, e)))
              | inr ne ↦ rw (put_other put k ne) (p.plural k)
            ];
            vacant = rw more_free (vacant_freed put n.free refl (vacancies_at n.sets c some) p.vacant);
          }
