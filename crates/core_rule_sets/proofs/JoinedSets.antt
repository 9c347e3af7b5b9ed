-- The sets of a partition as classes that join their members.
use Rattle.std.proofs.Common.{◌≡◌, ℕ, zero, suc, ◌==◌, true, ◌&&◌, ◌||◌, List, [], ◌∷◌, slice_index_or, refl, sym, ap, ◌∙◌, subst, inl, inr, arith}
use Rattle.std.specs.Prelude.{nat_eq}
use Rattle.std.proofs.lemmas.Bool.{cases_Bool, cond-true, cond-false, and_parts, and_from, or_cases, or_left, or_right, false_from_ne_true, false≢true}
use Rattle.std.proofs.lemmas.Grind.{common_steps}
use Rattle.laws_sites.proofs.overlaps.Overlaps.{bool_same}
use Rattle.core_containers.specs.Partition.{in_set, set_of, together, IsPartition}
use Rattle.model.specs.trees.Places.{is_in, joins_in}

turned : (a b : ℕ) → nat_eq a b ≡ (b == a)
turned a b = grind (arith, common_steps, false_from_ne_true (b == a))

-- members, by either test
pub in_set_in : (s : List ℕ) (a : ℕ) → in_set nat_eq s a ≡ is_in a s
in_set_in [] a = refl
in_set_in (x ∷ s) a = let e = turned a x in let r = in_set_in s a in λ i. e i || r i

-- the first of the sets that have an item
first_set : (cs : List (List ℕ)) (a b : ℕ) → together nat_eq cs a b ≡ true → joins_in cs a b ≡ true
unfolding set_of
first_set [] a b h = h
first_set (s ∷ cs) a b h =
    elim (cases_Bool (in_set nat_eq s a)) [
      | inl t ↦
          let there = subst (λ l. in_set nat_eq l b ≡ true) (cond-true (in_set nat_eq s a) s (set_of nat_eq cs a) t) h in
          or_left (is_in a s && is_in b s) (joins_in cs a b) (and_from (is_in a s) (is_in b s) (sym (in_set_in s a) ∙ t) (sym (in_set_in s b) ∙ there))
      | inr f ↦
          or_right (is_in a s && is_in b s) (joins_in cs a b) (first_set cs a b (subst (λ l. in_set nat_eq l b ≡ true) (cond-false (in_set nat_eq s a) s (set_of nat_eq cs a) f) h))
    ]

set_at : (cs : List (List ℕ)) (a : ℕ) (k : ℕ) → in_set nat_eq (slice_index_or cs k []) a ≡ true → (j : ℕ) × (set_of nat_eq cs a ≡ slice_index_or cs j []) × (in_set nat_eq (slice_index_or cs j []) a ≡ true)
unfolding set_of
set_at [] a k h = absurd (false≢true h)
set_at (s ∷ cs) a zero h = (0, cond-true (in_set nat_eq s a) s (set_of nat_eq cs a) h, h)
set_at (s ∷ cs) a (suc k) h =
    elim (cases_Bool (in_set nat_eq s a)) [
      | inl t ↦ (0, cond-true (in_set nat_eq s a) s (set_of nat_eq cs a) t, t)
      | inr f ↦ let r = set_at cs a k h in (suc r.0, cond-false (in_set nat_eq s a) s (set_of nat_eq cs a) f ∙ r.1, r.2)
    ]

joined_at : (cs : List (List ℕ)) (a b : ℕ) → joins_in cs a b ≡ true → (k : ℕ) × (in_set nat_eq (slice_index_or cs k []) a ≡ true) × (in_set nat_eq (slice_index_or cs k []) b ≡ true)
joined_at [] a b h = absurd (false≢true h)
joined_at (s ∷ cs) a b h =
    elim (or_cases (is_in a s && is_in b s) (joins_in cs a b) h) [
      | inl t ↦ let q = and_parts (is_in a s) (is_in b s) t in (0, in_set_in s a ∙ q.0, in_set_in s b ∙ q.1)
      | inr r ↦ let q = joined_at cs a b r in (suc q.0, q.1, q.2)
    ]

-- two items are in one set of a partition exactly where its classes join them
pub together_joins : (cs : List (List ℕ)) → IsPartition nat_eq cs → (a b : ℕ) → together nat_eq cs a b ≡ joins_in cs a b
together_joins cs p a b =
    bool_same (together nat_eq cs a b) (joins_in cs a b) (first_set cs a b)
    (λ h.
    let k = joined_at cs a b h in
    let j = set_at cs a k.0 k.1 in
    let same : j.0 ≡ k.0 = p.disjoint a j.0 k.0 j.2 k.1 in
    subst (λ l. in_set nat_eq l b ≡ true) (sym (j.1 ∙ ap (λ i. slice_index_or cs i []) same)) k.2)
