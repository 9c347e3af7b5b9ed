-- What a search by halves finds among constraints that ascend by site.
use Rattle.std.proofs.Common.{◌≡◌, ℕ, zero, suc, ◌<◌, ◌≤◌, true, cond, List, [], ◌∷◌, length, get_or, Some, None, refl, sym, ap, ◌∙◌, arith}
use Rattle.std.specs.List.{HoldsAt}
use Rattle.std.specs.List.Sorted.{IsNonDecreasingBy, IsPartitionPoint}
use Rattle.std.specs.declared.cmp.Ordering.TheVariants.{Less, Equal, Greater}
use Rattle.std.specs.Ordering.{nat_cmp, ordering_index}
use Rattle.std.proofs.lemmas.Bool.{and_parts, eq-eqb, ne_eqb}
use Rattle.std.proofs.lemmas.Bool.Decides.{Decides-ltb, nat_tests}
use Rattle.std.proofs.lemmas.Cmp.{ranked}
use Rattle.model.specs.trees.Places.{constraint_at}
use Rattle.core_rule_sets.specs.Listings.{ascends, is_below_first, sites_of}
use Rattle.core_rule_sets.specs.SiteViews.{constraint_view, constraint_views}
use Rattle.core_rule_sets.specs.declared.trie_again.Constraint.{Constraint}

abbrev Asked : Type 0
Asked = ℕ × Constraint

-- a site below the first is below each
below_each : (n : ℕ) (cs : List Asked) → is_below_first n (sites_of cs) ≡ true → ascends (sites_of cs) ≡ true → (k : ℕ) (d : Asked) → k < length cs → n < (get_or cs k d).0
below_each n [] h a k d l = absurd (omega arith)
below_each n (c ∷ cs) h a zero d l = (Decides-ltb n c.0).0 h
below_each n (c ∷ cs) h a (suc k) d l =
    let p = and_parts (is_below_first c.0 (sites_of cs)) (ascends (sites_of cs)) a in
    let here : n < c.0 = (Decides-ltb n c.0).0 h in
    let there : c.0 < (get_or cs k d).0 = below_each c.0 cs p.0 p.1 k d (omega arith) in
    omega arith

-- each site is below every later one
below_later : (cs : List Asked) → ascends (sites_of cs) ≡ true → (i j : ℕ) (d : Asked) → i < j → j < length cs → (get_or cs i d).0 < (get_or cs j d).0
below_later [] a i j d l m = absurd (omega arith)
below_later (c ∷ cs) a i zero d l m = absurd (omega arith)
below_later (c ∷ cs) a zero (suc j) d l m =
    let p = and_parts (is_below_first c.0 (sites_of cs)) (ascends (sites_of cs)) a in
    below_each c.0 cs p.0 p.1 j d (omega arith)
below_later (c ∷ cs) a (suc i) (suc j) d l m =
    let p = and_parts (is_below_first c.0 (sites_of cs)) (ascends (sites_of cs)) a in
    below_later cs p.1 i j d (omega arith) (omega arith)

module _ (s : ℕ) where
  at_place : (cs : List Asked) → ascends (sites_of cs) ≡ true → (k : ℕ) (d : Asked) → k < length cs → (get_or cs k d).0 ≡ s
      → constraint_at (constraint_views cs) s ≡ Some (constraint_view (get_or cs k d).1)
  at_place [] a k d l e = absurd (omega arith)
  at_place (c ∷ cs) a zero d l e = ap (λ b. cond b (Some (constraint_view c.1)) (constraint_at (constraint_views cs) s)) (eq-eqb c.0 s e)
  at_place (c ∷ cs) a (suc k) d l e =
      let p = and_parts (is_below_first c.0 (sites_of cs)) (ascends (sites_of cs)) a in
      let later : c.0 < (get_or cs k d).0 = below_each c.0 cs p.0 p.1 k d (omega arith) in
      let same : (get_or cs k d).0 ≡ s = e in
      ap (λ b. cond b (Some (constraint_view c.1)) (constraint_at (constraint_views cs) s)) (ne_eqb c.0 s (λ q. omega arith))
      ∙ at_place cs p.1 k d (omega arith) same

  at_no_place : (cs : List Asked) → ((k : ℕ) (d : Asked) → k < length cs → (get_or cs k d).0 ≡ s → ⊥) → constraint_at (constraint_views cs) s ≡ None
  at_no_place [] none = refl
  at_no_place (c ∷ cs) none =
      ap (λ b. cond b (Some (constraint_view c.1)) (constraint_at (constraint_views cs) s)) (ne_eqb c.0 s (none zero c (omega arith)))
      ∙ at_no_place cs (λ k d l e. none (suc k) d (omega arith) e)

  module _ (cs : List Asked) (a : ascends (sites_of cs) ≡ true) where
    -- the comparisons with a site rise along the list
    comparisons_rise : IsNonDecreasingBy (λ c. ordering_index (nat_cmp c.0 s)) cs
    comparisons_rise i j d le l =
        let rise : (get_or cs i d).0 ≤ (get_or cs j d).0 = grind (arith, below_later cs a i j d, λ (same : i ≡ j). ap (λ k. (get_or cs k d).0) same) in
        grind (arith, nat_tests)

    -- what is asked of a site that the search finds
    pub asked_here : (k : ℕ) (d : Asked) → k < length cs → HoldsAt (λ c. nat_cmp c.0 s ≡ Equal) cs k → Some (constraint_view (get_or cs k d).1) ≡ constraint_at (constraint_views cs) s
    asked_here k d l equal = sym (at_place cs a k d l (ranked _ s _ (sym (equal d))))

    -- and of one that it doesn't
    pub asked_nowhere : (n : ℕ) → (IsNonDecreasingBy (λ c. ordering_index (nat_cmp c.0 s)) cs → IsPartitionPoint (λ c. nat_cmp c.0 s ≡ Less) (λ c. nat_cmp c.0 s ≡ Greater) cs n)
        → None ≡ constraint_at (constraint_views cs) s
    asked_nowhere n parted = sym (at_no_place cs missed)
      where
        missed : (k : ℕ) (d : Asked) → k < length cs → (get_or cs k d).0 ≡ s → ⊥
        missed k d l same =
            let smaller : k < n → (get_or cs k d).0 < s = λ m. ranked _ s _ (sym ((parted comparisons_rise).0 k d (omega arith) m)) in
            let greater : n ≤ k → s < (get_or cs k d).0 = λ m. ranked _ s _ (sym ((parted comparisons_rise).1 k d m l)) in
            grind (arith, smaller, greater)
