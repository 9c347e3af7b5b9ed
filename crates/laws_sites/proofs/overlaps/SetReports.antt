-- What is reported of built sets is what is reported of their program: their rules stand for the built rules, one by one.
use Rattle.std.proofs.Common.{◌≡◌, ℕ, suc, Bool, if◌then◌else◌, List, [], ◌∷◌, ◌++◌, map, filter, Some, slice_get, refl, sym, ap, ◌∙◌, subst, inl, inr, arith}
use Rattle.std.proofs.lemmas.Bool.{cases_Bool}
use Rattle.std.specs.List.{AllZip, flat_map}
use Rattle.std.proofs.lemmas.Grind.{common_steps}
use Rattle.model.specs.rules.Program.{Program, is_multi}
use Rattle.model.specs.sites.Sites.{SetRule, SiteSet}
use Rattle.model.specs.sites.Overlap.{BuiltRule, overlaps, is_subset_pair, clash, shadows, each_two, compared, wrong_in, shadow_report, shadow_reports_in, overlap_reports, rules_overlap, rule_shadows, by_position}
use Rattle.model.specs.sites.RuleSets.{AreRulesOfSet, IsBuilt}
use Rattle.model.specs.sites.SetRules.{overlap_between, may_both_match, is_subset, overlap_wrongly, is_mask_of, wrong_among, shadow_report_of, shadows_among, compared_in}
use Rattle.model.specs.claims.SetMeanings.{AreOneRule}
use Rattle.model.proofs.Elements.{In}
use Rattle.laws_sites.specs.SetReportLaws.{BuiltSetsAreReported}
use Rattle.laws_sites.proofs.overlaps.Overlaps.{bool_same, overlaps_decides, subset_pair_decides}
use Rattle.laws_sites.proofs.overlaps.SetRules.{set_rules_overlap_as_their_demands_lem}
use Rattle.laws_sites.proofs.overlaps.Totals.{set_rules_constrain_as_their_demands_lem}
use Rattle.laws_sites.proofs.built.BuiltGates.{one_rule}
use Rattle.laws_sites.proofs.built.WellBuiltSets.{in_from_all}

-- 1. lists whose elements are related one by one
-- pairs whose parts are related
abbrev Both : {A B : Type 0} → (A → B → Type 0) → A × A → B × B → Type 0
Both R e q = R e.0 q.0 × R e.1 q.1

module _ {A B : Type 0} (R : A → B → Type 0) where
  map_same : {X : Type 0} (f : A → X) (g : B → X) → ((a : A) (b : B) → R a b → f a ≡ g b) → (as' : List A) (bs : List B) → AllZip R as' bs → map f as' ≡ map g bs
  map_same f g h (a ∷ as') (b ∷ bs) z = let e = h a b z.0 in let r = map_same f g h as' bs z.1 in (λ k. e k ∷ r k)
  map_same f g h i j z = grind (arith, common_steps)

  flat_same : {X : Type 0} (f : A → List X) (g : B → List X) → ((a : A) (b : B) → R a b → f a ≡ g b) → (as' : List A) (bs : List B) → AllZip R as' bs → flat_map f as' ≡ flat_map g bs
  flat_same f g h (a ∷ as') (b ∷ bs) z = let e = h a b z.0 in let r = flat_same f g h as' bs z.1 in (λ k. e k ++ r k)
  flat_same f g h i j z = grind (arith, common_steps)

  zip_append : (as' : List A) (bs : List B) (cs : List A) (ds : List B) → AllZip R as' bs → AllZip R cs ds → AllZip R (as' ++ cs) (bs ++ ds)
  zip_append (a ∷ as') (b ∷ bs) cs ds z w = (z.0, zip_append as' bs cs ds z.1 w)
  zip_append h k cs ds z w = grind (arith, common_steps)

  zip_filter : (f : A → Bool) (g : B → Bool) → ((a : A) (b : B) → R a b → f a ≡ g b) → (as' : List A) (bs : List B) → AllZip R as' bs → AllZip R (filter f as') (filter g bs)
  zip_filter f g h [] [] z = tt
  zip_filter f g h (a ∷ as') (b ∷ bs) z =
      subst (λ t. AllZip R (filter f (a ∷ as')) (if t then b ∷ filter g bs else filter g bs)) (h a b z.0) (grind (arith, common_steps, zip_filter f g h as' bs z.1, f a, z.0))
  zip_filter f g h _ _ z = absurd z

zip_with : {A B : Type 0} (R : A → B → Type 0) (a : A) (b : B) → R a b → (as' : List A) (bs : List B) → AllZip R as' bs
    → AllZip (Both R) (map (λ (x : A). (a, x)) as') (map (λ (y : B). (b, y)) bs)
zip_with R a b h (c ∷ cs) (d ∷ ds) z = ((h, z.0), zip_with R a b h cs ds z.1)
zip_with R a b h as' bs z = grind (arith, common_steps)

zip_each_two : {A B : Type 0} (R : A → B → Type 0) (as' : List A) (bs : List B) → AllZip R as' bs
    → AllZip (Both R) (each_two as') (each_two bs)
zip_each_two R [] [] z = tt
zip_each_two R [] (b ∷ bs) z = absurd z
zip_each_two R (a ∷ as') [] z = absurd z
zip_each_two {A = A} {B = B} R (a ∷ as') (b ∷ bs) z = grind (arith, common_steps, zip_each_two R as' bs z.1, zip_append, zip_with)

-- 2. what is told of two rules
-- 3. the rules of one built set stand for the built rules of its term
module _ (p : Program) (t : ℕ) (set : SiteSet) (h : IsBuilt p t set) where
  abbrev One : BuiltRule → SetRule → Type 0
  One b r = AreOneRule p t set b r

  same_at : (b : BuiltRule) (r : SetRule) → One b r → b.rule.at ≡ r.at
  same_at b r o = sym (one_rule p t set b r h o).at

  same_overlap : (a b : BuiltRule) (r s : SetRule) → One a r → One b s → overlaps a.demands b.demands ≡ may_both_match (overlap_between r s)
  same_overlap a b r s o w =
      let told = set_rules_overlap_as_their_demands_lem p t set h a b r s o w in
      let test = overlaps_decides a.demands b.demands in
      bool_same (overlaps a.demands b.demands) (may_both_match (overlap_between r s))
      (λ e. elim (cases_Bool (may_both_match (overlap_between r s))) [
        | inl y ↦ y
        | inr n ↦ absurd (told.none.0 (grind arith) (test.0 e))
      ])
      (λ e. grind (arith, common_steps))

  same_subset : (a b : BuiltRule) (r s : SetRule) → One a r → One b s → is_subset_pair a.demands b.demands ≡ is_subset (overlap_between r s)
  same_subset a b r s o w =
      let told = set_rules_overlap_as_their_demands_lem p t set h a b r s o w in
      let test = subset_pair_decides a.demands b.demands in
      bool_same (is_subset_pair a.demands b.demands) (is_subset (overlap_between r s))
      (λ e. ap is_subset (told.subset.1 (test.0 e)))
      (λ e. test.1 (told.subset.0 (grind arith)))

  same_clash : (a b : BuiltRule) (r s : SetRule) → One a r → One b s → clash a b ≡ overlap_wrongly r s
  same_clash a b r s o w = grind (arith, common_steps, same_overlap, one_rule)

  same_shadows : (a b : BuiltRule) (r s : SetRule) → One a r → One b s → shadows a b ≡ is_mask_of r s
  same_shadows a b r s o w = grind (arith, common_steps, same_subset, set_rules_constrain_as_their_demands_lem, one_rule)

  placed : (bs : List BuiltRule) (rs : List SetRule) → AreRulesOfSet p set.sites bs rs
      → ((i : ℕ) (b : BuiltRule) (r : SetRule) → slice_get bs i ≡ Some b → slice_get rs i ≡ Some r → One b r) → AllZip One bs rs
  placed (b ∷ bs) (r ∷ rs) q f = (f 0 b r refl refl, placed bs rs q.1 (λ i c s e g. f (suc i) c s e g))
  placed h k q f = grind (arith, common_steps)

  wrong_same : (bs : List BuiltRule) (rs : List SetRule) → AllZip One bs rs → wrong_in bs ≡ wrong_among rs
  wrong_same bs rs z =
      map_same (Both One) (λ e. (e.0.rule.at, e.1.rule.at)) (λ e. (e.0.at, e.1.at))
      (λ e q o. let x = same_at e.0 q.0 o.0 in let y = same_at e.1 q.1 o.1 in (λ k. (x k, y k)))
      (filter (λ e. clash e.0 e.1) (each_two bs)) (filter (λ e. overlap_wrongly e.0 e.1) (each_two rs))
      (zip_filter (Both One) (λ e. clash e.0 e.1) (λ e. overlap_wrongly e.0 e.1) (λ e q o. same_clash e.0 e.1 q.0 q.1 o.0 o.1) (each_two bs) (each_two rs) (zip_each_two One bs rs z))

  report_same : (m : BuiltRule) (q : SetRule) → One m q → (bs : List BuiltRule) (rs : List SetRule) → AllZip One bs rs → shadow_report m bs ≡ shadow_report_of q rs
  report_same m q o bs rs z = grind (arith, common_steps, same_at m q o, map_same One (λ s. s.rule.at) (λ s. s.at) same_at)

  shadows_same : (bs : List BuiltRule) (rs : List SetRule) → AllZip One bs rs → shadow_reports_in bs ≡ shadows_among rs
  shadows_same bs rs z =
      flat_same One (λ m. shadow_report m (filter (shadows m) bs)) (λ m. shadow_report_of m (filter (is_mask_of m) rs))
      (λ m q o. report_same m q o (filter (shadows m) bs) (filter (is_mask_of q) rs) (zip_filter One (shadows m) (is_mask_of q) (λ b r w. same_shadows m b q r o w) bs rs z))
      bs rs z

  pub wrong_of_term : wrong_in (compared p t) ≡ wrong_among (compared_in (is_multi p) (t, set))
  wrong_of_term = wrong_same (compared p t) (compared_in (is_multi p) (t, set)) (grind (arith, common_steps, placed))

  pub shadows_of_term : shadow_reports_in (compared p t) ≡ shadows_among (compared_in (is_multi p) (t, set))
  shadows_of_term = shadows_same (compared p t) (compared_in (is_multi p) (t, set)) (grind (arith, common_steps, placed))

-- 4. all terms
over_terms : {X : Type 0} (f : ℕ → List X) (g : ℕ × SiteSet → List X) (sets : List (ℕ × SiteSet)) → ((s : ℕ × SiteSet) → In sets s → f s.0 ≡ g s)
    → flat_map f (map (λ s. s.0) sets) ≡ flat_map g sets
over_terms f g [] h = refl
over_terms f g (s ∷ sets) h = let e = h s (inl refl) in let r = over_terms f g sets (λ x i. h x (inr i)) in (λ k. e k ++ r k)

pub built_sets_are_reported_lem : BuiltSetsAreReported
built_sets_are_reported_lem p sets terms built =
    let w = ap (flat_map (λ t. wrong_in (compared p t))) (sym terms) ∙ over_terms (λ t. wrong_in (compared p t)) (λ s. wrong_among (compared_in (is_multi p) s)) sets (λ s i. wrong_of_term p s.0 s.1 (each s i)) in
    let m = ap (flat_map (λ t. shadow_reports_in (compared p t))) (sym terms) ∙ over_terms (λ t. shadow_reports_in (compared p t)) (λ s. shadows_among (compared_in (is_multi p) s)) sets (λ s i. shadows_of_term p s.0 s.1 (each s i)) in
    sym (λ k. by_position (map rules_overlap (overlap_reports (w k)) ++ map rule_shadows (m k)))
  where
    each : (s : ℕ × SiteSet) → In sets s → IsBuilt p s.0 s.1
    each s i = in_from_all (λ x. IsBuilt p x.0 x.1) sets built s i
