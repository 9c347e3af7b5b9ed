-- Disjoint sets are listed one after another, by their least members.
use Rattle.std.proofs.Common.{◌≡◌, ℕ, ◌<◌, ◌==◌, nat_lt, Bool, true, false, not, ◌&&◌, ◌||◌, List, [], ◌∷◌, ◌++◌, length, refl, sym, ap, ◌∙◌, subst, inl, inr, arith, eq-eqb}
use Rattle.std.specs.Prelude.{nat_eq, take}
use Rattle.std.specs.List.{flat_map, list_all}
use Rattle.std.specs.List.Sorted.{IsStrictlySortedBy}
use Rattle.std.specs.Ordering.{nat_cmp}
use Rattle.std.specs.BTreeSet.{BTreeSet, contains}
use Rattle.std.proofs.lemmas.Bool.{cases_Bool, and_parts, and_from, or_left, or_cases, false_from_ne_true, false≢true, lt-ltb}
use Rattle.std.proofs.lemmas.Grind.{flat_map-append}
use Rattle.std.proofs.lemmas.List.Folds.{list_all-append, list_any-append}
use Rattle.std.proofs.Math.Bool.{or-false, and-true, and-false, or_assoc}
use Rattle.std.proofs.lemmas.Grind.{common_steps}
use Rattle.core_containers.specs.Partition.{in_set, together, IsPartition}
use Rattle.model.specs.trees.Places.{is_in, joins_in}
use Rattle.core_rule_sets.specs.Listings.{are_listed, ascends, is_below_first, is_listed_class}
use Rattle.core_rule_sets.specs.SetLists.{AreNoted, IsListedBefore}
use Rattle.core_rule_sets.proofs.JoinedSets.{in_set_in}
use Rattle.model.proofs.Numbers.{tied}
use Rattle.core_rule_sets.proofs.AskedOnce.{sorted_ascend}

-- 1. members of a set
contains_in : (s : BTreeSet ℕ) (a : ℕ) → contains nat_cmp s a ≡ is_in a s.keys
contains_in s a = grind (arith, common_steps, tied a)

-- 2. numbers that ascend: the first is below the others
pub below_rest : (x : ℕ) (xs : List ℕ) (a : ℕ) → ascends (x ∷ xs) ≡ true → is_in a xs ≡ true → x < a
below_rest x [] a h i = absurd (false≢true i)
below_rest x (y ∷ xs) a h i = grind (arith, common_steps, below_rest y xs a, and_parts (nat_lt x y) (ascends (y ∷ xs)) h, or_cases (y == a) (is_in a xs) i)

-- one more, above all
ascends_push : (xs : List ℕ) (n : ℕ) → ascends xs ≡ true → list_all (λ x. nat_lt x n) xs ≡ true → ascends (xs ++ n ∷ []) ≡ true
ascends_push (x ∷ y ∷ xs) n h l =
    let p = and_parts (nat_lt x y) (ascends (y ∷ xs)) h in
    and_from (nat_lt x y) (ascends (y ∷ xs ++ n ∷ [])) p.0 (ascends_push (y ∷ xs) n p.1 (and_parts (nat_lt x n) (list_all (λ x. nat_lt x n) (y ∷ xs)) l).1)
ascends_push xs n h l = grind (arith, and_parts)

-- 3. one more class
joins_push : (cs : List (List ℕ)) (c : List ℕ) (a b : ℕ) → joins_in (cs ++ c ∷ []) a b ≡ (joins_in cs a b || (is_in a c && is_in b c))
joins_push cs c a b = list_any-append (λ c. is_in a c && is_in b c) cs (c ∷ []) ∙ ap (λ t. joins_in cs a b || t) (or-false (is_in a c && is_in b c))

abbrev firsts : List (List ℕ) → List ℕ
firsts cs = flat_map (take 1) cs

first_push : (cs : List (List ℕ)) (x : ℕ) (xs : List ℕ) → firsts (cs ++ (x ∷ xs) ∷ []) ≡ firsts cs ++ x ∷ []
first_push cs x xs = flat_map-append (take 1) cs ((x ∷ xs) ∷ [])

listed_push : (cs : List (List ℕ)) (x : ℕ) (xs : List ℕ) → are_listed cs ≡ true → is_listed_class (x ∷ xs) ≡ true → list_all (λ n. nat_lt n x) (firsts cs) ≡ true → are_listed (cs ++ (x ∷ xs) ∷ []) ≡ true
listed_push cs x xs h l above =
    let p = and_parts (list_all is_listed_class cs) (ascends (firsts cs)) h in
    and_from (list_all is_listed_class (cs ++ (x ∷ xs) ∷ [])) (ascends (firsts (cs ++ (x ∷ xs) ∷ [])))
    (list_all-append is_listed_class cs ((x ∷ xs) ∷ []) ∙ and_from (list_all is_listed_class cs) (is_listed_class (x ∷ xs) && true) p.0 (and_from (is_listed_class (x ∷ xs)) true l refl))
    (ap ascends (first_push cs x xs) ∙ ascends_push (firsts cs) x p.1 above)

two_members : (set : List ℕ) (a b : ℕ) → is_in a set ≡ true → is_in b set ≡ true → nat_eq a b ≡ false → nat_lt 1 (length set) ≡ true
two_members [] a b h k e = absurd (false≢true h)
two_members (x ∷ []) a b h k e = grind (arith, common_steps, or_cases)
two_members (x ∷ y ∷ set) a b h k e = let l : 1 < length (x ∷ y ∷ set) = omega arith in lt-ltb 1 (length (x ∷ y ∷ set)) l

-- 4. the set of the next site, if it is in one
module _ (whole rest after listed : List (List ℕ)) (s : ℕ) (later set : List ℕ) (h : IsListedBefore whole rest listed (s ∷ later)) (partition : IsPartition nat_eq after)
    (members : (y : ℕ) → in_set nat_eq set y ≡ together nat_eq rest s y)
    (rests : (a b : ℕ) → together nat_eq after a b ≡ (together nat_eq rest a b && not (together nat_eq rest s a))) where
  abbrev R : ℕ → ℕ → Bool
  R a b = together nat_eq rest a b

  stayed : (a : ℕ) → together nat_eq after a a ≡ true → (R a a ≡ true) × (R s a ≡ false)
  stayed a t = grind (arith, common_steps, and_parts (R a a) (not (R s a)) (sym (rests a a) ∙ t), false_from_ne_true (R s a))

  still_left : (a : ℕ) → together nat_eq after a a ≡ true → is_in a later ≡ true
  still_left a t = grind (arith, common_steps, stayed a t, or_cases (s == a) (is_in a later))

  later_ascend : ascends later ≡ true
  later_ascend = (and_parts (is_below_first s later) (ascends later) h.ascending).1

  module _ (x : ℕ) (xs : List ℕ) (e : set ≡ x ∷ xs) (sorted : IsStrictlySortedBy nat_cmp set) where
    first_in : R s x ≡ true
    first_in = sym (members x) ∙ in_set_in set x ∙ ap (is_in x) e ∙ or_left (x == x) (is_in x xs) (eq-eqb x x refl)

    own : R s s ≡ true
    own = h.partition.transitive s x s first_in (h.partition.symmetric x s ∙ first_in)

    first_own : R x x ≡ true
    first_own = h.partition.transitive x s x (h.partition.symmetric x s ∙ first_in) first_in

    set_ascends : ascends (x ∷ xs) ≡ true
    set_ascends = sorted_ascend (x ∷ xs) (subst (IsStrictlySortedBy nat_cmp) e sorted)

    in_one : (a : ℕ) → is_in a (x ∷ xs) ≡ R s a
    in_one a = sym (ap (is_in a) e) ∙ sym (in_set_in set a) ∙ members a

    not_above : (a : ℕ) → s < a → x < a
    not_above a l = grind (arith, common_steps, or_cases (x == s) (is_in s xs) (in_one s ∙ own), in_one s, own, below_rest x xs s set_ascends)

    long : nat_lt 1 (length (x ∷ xs)) ≡ true
    long = grind (arith, common_steps, two_members (x ∷ xs) s, in_one s, own)

    split : (a b : ℕ) → R a b ≡ ((is_in a (x ∷ xs) && is_in b (x ∷ xs)) || together nat_eq after a b)
    split a b =
        elim (cases_Bool (R s a)) [
          | inl t ↦ grind (arith, common_steps, or-false (R s b), in_one a, in_one b, and-false (R a b), h.partition.one_set s a t, rests a b)
          | inr f ↦ sym (λ i. ((in_one a ∙ f) i && in_one b i) || (rests a b ∙ ap (λ g. R a b && not g) f ∙ and-true (R a b)) i)
        ]

    pub one_listed : IsListedBefore whole after (listed ++ set ∷ []) later
    one_listed = record {
      partition = partition;
      parts = λ a b.
          h.parts a b ∙ ap (λ t. joins_in listed a b || t) (split a b)
          ∙ sym (or_assoc (joins_in listed a b) (is_in a (x ∷ xs) && is_in b (x ∷ xs)) (together nat_eq after a b))
          ∙ ap (λ t. t || together nat_eq after a b) (sym (joins_push listed (x ∷ xs) a b))
          ∙ ap (λ c. joins_in (listed ++ c ∷ []) a b || together nat_eq after a b) (sym e);
      in_order = ap (λ c. are_listed (listed ++ c ∷ [])) e ∙ listed_push listed x xs h.in_order (and_from (ascends (x ∷ xs)) (nat_lt 1 (length (x ∷ xs))) set_ascends long) (h.above x first_own);
      ascending = later_ascend;
      left = still_left;
      above = λ a t.
          ap (λ c. list_all (λ n. nat_lt n a) (firsts (listed ++ c ∷ []))) e
          ∙ ap (list_all (λ n. nat_lt n a)) (first_push listed x xs)
          ∙ list_all-append (λ n. nat_lt n a) (firsts listed) (x ∷ [])
          ∙ and_from (list_all (λ n. nat_lt n a) (firsts listed)) (nat_lt x a && true) (h.above a (stayed a t).0)
          (and_from (nat_lt x a) true (lt-ltb x a (not_above a (below_rest s later a h.ascending (still_left a t)))) refl);
    }

  pub some_listed : (set ≡ [] → ⊥) → IsStrictlySortedBy nat_cmp set → IsListedBefore whole after (listed ++ set ∷ []) later
  some_listed filled sorted = of set refl
    where
      of : (l : List ℕ) → set ≡ l → IsListedBefore whole after (listed ++ set ∷ []) later
      of [] e = absurd (filled e)
      of (x ∷ xs) e = one_listed x xs e sorted

-- 5. at the start none are listed, at the end all
pub listing_starts : (sets : List (List ℕ)) (noted : BTreeSet ℕ) → IsPartition nat_eq sets → AreNoted sets noted → IsStrictlySortedBy nat_cmp noted.keys → IsListedBefore sets sets [] noted.keys
listing_starts sets noted p all sorted = grind (arith, common_steps, sorted_ascend noted.keys sorted, contains_in noted)

pub listing_ends : (whole rest listed : List (List ℕ)) → IsListedBefore whole rest listed [] → (a b : ℕ) → joins_in listed a b ≡ together nat_eq whole a b
listing_ends whole rest listed h a b = grind (arith, common_steps, false_from_ne_true (together nat_eq rest a b), or-false (joins_in listed a b))
