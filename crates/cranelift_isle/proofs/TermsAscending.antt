-- The sets of a map, ascending by term, are those of the terms with rules.
use Rattle.std.proofs.Common.{◌≡◌, ◌≢◌, ◌==◌, true≢false, ℕ, suc, ◌+◌, ◌<◌, ◌≤◌, Bool, true, false, List, [], ◌∷◌, length, map, filter, None, Some, Option, is_some, slice_get, option_map, refl, sym, ap, ◌∙◌, subst, inl, inr, arith, eqb-true}
use Rattle.std.specs.BTreeMap.{BTreeMap, IsOrdered, get, is_at, keys}
use Rattle.std.specs.List.{list_any}
use Rattle.std.specs.List.Sorted.{IsStrictlySortedBy}
use Rattle.std.specs.Ordering.{nat_cmp}
use Rattle.std.proofs.lemmas.Bool.{cases_Bool, cond-true, cond-false}
use Rattle.std.proofs.lemmas.Cmp.{nat_cmp_total}
use Rattle.std.proofs.lemmas.Map.Entries.{btree_map_get_place, place_from_lookup}
use Rattle.std.proofs.lemmas.Map.Keys.{below_from_sorted, sorted_tail}
use Rattle.std.proofs.lemmas.Option.{get_or_from_slice_get, slice_get_within}
use Rattle.model.specs.rules.Program.{Program, numbers_from, terms_with_rules}
use Rattle.model.specs.sites.Sites.{SiteSet}
use Rattle.model.proofs.Elements.{In, contains_from_in, in_any, in_map, in_slice, map_in, slice_in}
use Rattle.model.proofs.Members.{all_members, get_from_member}
use Rattle.laws_sites.specs.RuleByRule.{AreLookedUp}
use Rattle.laws_sites.specs.ReportLaws.{RulesHaveTerms}
use Rattle.core_builder.specs.AddedRules.{set_so_far}
use Rattle.cranelift_isle.specs.SetsSoFar.{term_set_at}
use Rattle.core_builder.specs.declared.term_sets.TermSet.{TermSet}
use Rattle.model.proofs.Numbers.{tied}

-- 1. ascending numbers of a range
after_first : (k : ℕ) (ks : List ℕ) → IsStrictlySortedBy nat_cmp (k ∷ ks) → (m : ℕ) → In ks m → k < m
after_first k ks s m i =
    let p = slice_in ks m i in
    let l = slice_get_within ks p.0 m p.1 in
    subst (λ x. k < x) (get_or_from_slice_get ks p.0 m 0 p.1) (below_from_sorted (k ∷ ks) 0 (suc p.0) 0 s (omega arith) (omega (arith, l)))

pub ascending_are : {X : Type 0} (f : ℕ → Bool) (xs : List X) (n : ℕ) (ks : List ℕ) → IsStrictlySortedBy nat_cmp ks
    → ((k : ℕ) → In ks k → (n ≤ k) × (k < n + length xs) × (f k ≡ true)) → ((k : ℕ) → n ≤ k → k < n + length xs → f k ≡ true → In ks k) → ks ≡ filter f (numbers_from n xs)
ascending_are f [] n [] s within all = refl
ascending_are f [] n (k ∷ ks) s within all = let w = within k (inl refl) in let a = w.0 in let b = w.1 in absurd (let m : ⊥ = omega (arith, a, b) in m)
ascending_are f (x ∷ xs) n ks s within all =
    elim (cases_Bool (f n)) [
      | inl t ↦ first (ascending_are f xs (suc n)) ks s within all t (all n (omega arith) (omega arith) t)
      | inr u ↦
          ascending_are f xs (suc n) ks s (λ k i. let w = within k i in let a = w.0 in let b = w.1 in let d = other k w.2 u in (omega (arith, a, d), omega (arith, b), w.2))
          (λ k a b t. all k (omega (arith, a)) (omega (arith, b)) t)
          ∙ sym (cond-false (f n) (n ∷ filter f (numbers_from (suc n) xs)) (filter f (numbers_from (suc n) xs)) u)
    ]
  where
    other : (k : ℕ) → f k ≡ true → f n ≡ false → k ≢ n
    other k t u e = true≢false (sym t ∙ ap f e ∙ u)

    first : ((ks : List ℕ) → IsStrictlySortedBy nat_cmp ks → ((k : ℕ) → In ks k → (suc n ≤ k) × (k < suc n + length xs) × (f k ≡ true)) → ((k : ℕ) → suc n ≤ k → k < suc n + length xs → f k ≡ true → In ks k) → ks ≡ filter f (numbers_from (suc n) xs))
        → (ks : List ℕ) → IsStrictlySortedBy nat_cmp ks → ((k : ℕ) → In ks k → (n ≤ k) × (k < n + length (x ∷ xs)) × (f k ≡ true)) → ((k : ℕ) → n ≤ k → k < n + length (x ∷ xs) → f k ≡ true → In ks k)
        → f n ≡ true → In ks n → ks ≡ filter f (numbers_from n (x ∷ xs))
    first go_on [] s within all t i = absurd i
    first go_on (k ∷ ks) s within all t i =
        (λ j. least i j ∷ rest j)
        ∙ sym (cond-true (f n) (n ∷ filter f (numbers_from (suc n) xs)) (filter f (numbers_from (suc n) xs)) t)
      where
        least : In (k ∷ ks) n → k ≡ n
        least (inl e) = e
        least (inr j) = let l = after_first k ks s n j in let w = (within k (inl refl)).0 in absurd (let m : ⊥ = omega (arith, l, w) in m)

        later : (m : ℕ) → In (k ∷ ks) m → suc n ≤ m → In ks m
        later m (inl e) l = let g = least i in absurd (let z : ⊥ = omega (arith, e, g, l) in z)
        later m (inr j) l = j

        rest : ks ≡ filter f (numbers_from (suc n) xs)
        rest =
            go_on ks (sorted_tail nat_cmp k ks s)
            (λ m j. let w = within m (inr j) in let b = w.1 in let l = after_first k ks s m j in let g = least i in (omega (arith, l, g), omega (arith, b), w.2))
            (λ m a b u. later m (all m (omega (arith, a)) (omega (arith, b)) u) a)

-- another number isn't at a place
pub not_at : (k t : ℕ) → t ≢ k → is_at (nat_cmp k) t ≡ false
not_at k t n = tied k t ∙ elim (cases_Bool (t == k)) [ inl y ↦ absurd (n (eqb-true t k y)) | inr f ↦ f ]

-- 2. the sets of a map
module _ (sets : BTreeMap ℕ TermSet) (ordered : IsOrdered nat_cmp sets) where
  abbrev listed : List (ℕ × SiteSet)
  listed = map (λ e. (e.0, set_so_far e.1)) sets.entries

  pub looked_up : AreLookedUp (term_set_at sets) listed
  looked_up =
      all_members (λ (s : ℕ × SiteSet). term_set_at sets s.0 ≡ Some s.1) listed (λ s i.
      let g = get_from_member listed s i in found s g.0 g.1)
    where
      found : (s : ℕ × SiteSet) (i : ℕ) → slice_get listed i ≡ Some s → term_set_at sets s.0 ≡ Some s.1
      found s i e =
          let m = in_map (λ (x : ℕ × TermSet). (x.0, set_so_far x.1)) sets.entries s (in_slice listed i s e) in
          let p = slice_in sets.entries m.0 m.1 in
          subst (λ (y : ℕ × SiteSet). term_set_at sets y.0 ≡ Some y.1) m.2 (ap (option_map set_so_far) (btree_map_get_place nat_cmp_total sets p.0 m.0.0 m.0.1 ordered p.1))

  key_of : (t : ℕ) → is_some (get nat_cmp sets t) ≡ true → In (keys sets) t
  key_of t h = by (get nat_cmp sets t) refl h
    where
      by : (o : Option TermSet) → get nat_cmp sets t ≡ o → is_some o ≡ true → In (keys sets) t
      by None e h = absurd (true≢false (sym h))
      by (Some v) e h =
          let p = place_from_lookup _ sets.entries v e in
          subst (In (keys sets)) (eqb-true p.1 t (sym (tied t p.1) ∙ p.3)) (map_in (λ (x : ℕ × TermSet). x.0) sets.entries (p.1, v) (in_slice sets.entries p.0 (p.1, v) p.2))

  key_found : (t : ℕ) → In (keys sets) t → is_some (get nat_cmp sets t) ≡ true
  key_found t i =
      let m = in_map (λ (x : ℕ × TermSet). x.0) sets.entries t i in
      let p = slice_in sets.entries m.0 m.1 in
      subst (λ k. is_some (get nat_cmp sets k) ≡ true) m.2 (ap is_some (btree_map_get_place nat_cmp_total sets p.0 m.0.0 m.0.1 ordered p.1))

  some_view : (o : Option TermSet) → is_some (option_map set_so_far o) ≡ is_some o
  some_view None = refl
  some_view (Some s) = refl

  same_keys : (es : List (ℕ × TermSet)) → map (λ (s : ℕ × SiteSet). s.0) (map (λ (e : ℕ × TermSet). (e.0, set_so_far e.1)) es) ≡ map (λ (e : ℕ × TermSet). e.0) es
  same_keys [] = refl
  same_keys (e ∷ es) = ap (λ l. e.0 ∷ l) (same_keys es)

  pub terms_listed : (p : Program) → RulesHaveTerms p → ((t : ℕ) → is_some (term_set_at sets t) ≡ list_any (λ r. r.root_term == t) p.rules) → map (λ (s : ℕ × SiteSet). s.0) listed ≡ terms_with_rules p
  terms_listed p known all =
      same_keys sets.entries
      ∙ ascending_are (λ t. list_any (λ r. r.root_term == t) p.rules) p.terms 0 (keys sets) ordered
      (λ t i.
      let h = sym (all t) ∙ some_view (get nat_cmp sets t) ∙ key_found t i in
      (omega arith, within t h, h))
      (λ t a b h. key_of t (sym (some_view (get nat_cmp sets t)) ∙ all t ∙ h))
    where
      within : (t : ℕ) → list_any (λ r. r.root_term == t) p.rules ≡ true → t < 0 + length p.terms
      within t h =
          let r = in_any (λ r. r.root_term == t) p.rules h in
          let l = known r.0 (contains_from_in p.rules r.0 r.1) in
          let e = eqb-true r.0.root_term t r.2 in
          omega (arith, l, e)
