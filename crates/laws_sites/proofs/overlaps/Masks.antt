-- Where rules stand at distinct positions, each mask is reported once.
use Rattle.std.proofs.Common.{◌≡◌, ◌==◌, ℕ, suc, ◌≤◌, Bool, false, List, [], ◌∷◌, ◌++◌, map, Some, slice_get, Contains, filter, flat_map, refl, sym, ap, ◌∙◌, subst, inl, inr, arith}
use Rattle.std.proofs.lemmas.Bool.{cases_Bool, cond-true, cond-false}
use Rattle.std.specs.List.{list_any}
use Rattle.std.proofs.lemmas.Grind.{common_steps}
use Rattle.model.specs.lists.Names.{IsDistinct}
use Rattle.model.specs.rules.Typed.{TypedRule}
use Rattle.model.specs.rules.Program.{Program, is_multi, rules_of, numbers_from, terms_with_rules}
use Rattle.model.specs.sites.Sites.{SiteTerm}
use Rattle.model.specs.sites.Limits.{sites_after_rule}
use Rattle.model.specs.sites.Overlap.{HasDistinctPositions, BuiltRule, built_from, built_rules, Shadows, shadows, compared, ShadowReport, shadow_report, shadow_reports_in, shadow_reports}
use Rattle.laws_sites.specs.ReportLaws.{RulesHaveTerms, IsOnlyOfMask}
use Rattle.model.proofs.Elements.{In, in_from_contains, contains_from_in, some_is, none_some, in_either, in_slice, slice_in, in_filter, passed_filter, map_in, from_flat_map}
use Rattle.laws_sites.proofs.overlaps.ReportedOverlaps.{built_of, compared_means, masked_means, masked_there}

-- no key of a list comes again
abbrev pub Apart : {X K : Type 0} → (X → K) → List X → Type 0
Apart h [] = Unit {0}
Apart {X = X} h (x ∷ xs) = ((y : X) → In xs y → h y ≡ h x → ⊥) × Apart h xs

apart_append : {X K : Type 0} (h : X → K) (xs ys : List X) → Apart h xs → Apart h ys → ((x y : X) → In xs x → In ys y → h y ≡ h x → ⊥) → Apart h (xs ++ ys)
apart_append h [] ys a b f = b
apart_append h (x ∷ xs) ys a b f = grind (arith, common_steps, apart_append h xs ys a.1 b (λ u y i j e. f u y (inr i) j e), in_either)

apart_each : {X Y K L : Type 0} (h : X → K) (g : Y → L) (f : X → List Y) (xs : List X) → Apart h xs → ((x : X) → In xs x → Apart g (f x))
    → ((x y : X) (a b : Y) → In xs x → In xs y → In (f x) a → In (f y) b → g b ≡ g a → h y ≡ h x) → Apart g (flat_map f xs)
apart_each h g f [] a b c = tt
apart_each h g f (x ∷ xs) a b c = grind (arith, apart_each h g f xs a.1 (λ y i. b y (inr i)) (λ y z u v i j. c y z u v (inr i) (inr j)), apart_append, from_flat_map)

apart_filter : {X K : Type 0} (h : X → K) (f : X → Bool) (xs : List X) → Apart h xs → Apart h (filter f xs)
apart_filter h f [] a = tt
apart_filter h f (x ∷ xs) a = grind (arith, common_steps, apart_filter h f xs a.1, in_filter)

apart_places : {X K : Type 0} (h : X → K) (xs : List X) → Apart h xs → (j k : ℕ) (x y : X) → slice_get xs j ≡ Some x → slice_get xs k ≡ Some y → h x ≡ h y → j ≡ k
apart_places h (z ∷ xs) a (suc j) (suc k) x y e f g = ap suc (apart_places h xs a.1 j k x y e f g)
apart_places h i a j k x y e f g = grind (arith, common_steps, none_some, in_slice, some_is)

pub distinct_apart : {X K : Type 0} (h : X → K) (xs : List X) → IsDistinct (map h xs) → Apart h xs
distinct_apart h [] d = tt
distinct_apart h (x ∷ xs) d = (
  λ y i e.
      let k = slice_in (map h xs) (h y) (map_in h xs y i) in
      let same = d 0 (suc k.0) (h x) refl (k.1 ∙ ap Some e) in
      absurd (omega (arith, same)),
  distinct_apart h xs (λ j k y e f. let same = d (suc j) (suc k) y e f in omega (arith, same)),
)

apart_same : {X K : Type 0} (h : X → K) (xs : List X) → Apart h xs → (x y : X) → In xs x → In xs y → h x ≡ h y → x ≡ y
apart_same h [] a x y i j e = absurd i
apart_same h (z ∷ xs) a x y (inl p) (inl q) e = sym p ∙ q
apart_same h (z ∷ xs) a x y (inl p) (inr j) e = absurd (a.0 y j (sym e ∙ ap h (sym p)))
apart_same h (z ∷ xs) a x y (inr i) (inl q) e = absurd (a.0 x i (e ∙ ap h (sym q)))
apart_same h (z ∷ xs) a x y (inr i) (inr j) e = apart_same h xs a.1 x y i j e

numbers_from_on : {X : Type 0} (n k : ℕ) (xs : List X) → In (numbers_from n xs) k → n ≤ k
numbers_from_on n k [] i = absurd i
numbers_from_on n k (x ∷ xs) (inl e) = omega (arith, e)
numbers_from_on n k (x ∷ xs) (inr i) = let later = numbers_from_on (suc n) k xs i in omega (arith, later)

numbers_apart : {X : Type 0} (n : ℕ) (xs : List X) → Apart (λ (k : ℕ). k) (numbers_from n xs)
numbers_apart n [] = tt
numbers_apart n (x ∷ xs) = (λ y i e. let later = numbers_from_on (suc n) y xs i in absurd (omega (arith, later, e)), numbers_apart (suc n) xs)

built_stand_apart : (p : Program) (before : List SiteTerm) (rs : List TypedRule) → Apart (λ r. r.at) rs → Apart (λ b. b.rule.at) (built_from p before rs)
built_stand_apart p before [] a = tt
built_stand_apart p before (r ∷ rs) a = grind (arith, common_steps, built_stand_apart p (sites_after_rule p before r) rs a.1, apart_append, built_of)

module _ (p : Program) (distinct : HasDistinctPositions p) where
  compared_apart : (t : ℕ) → Apart (λ b. b.rule.at) (compared p t)
  compared_apart t =
      elim (cases_Bool (is_multi p t)) [
        | inl m ↦ subst (Apart (λ b. b.rule.at)) (sym (cond-true (is_multi p t) [] (built_rules p t) m)) tt
        | inr f ↦
            subst (Apart (λ b. b.rule.at)) (sym (cond-false (is_multi p t) [] (built_rules p t) f))
            (built_stand_apart p [] (rules_of p t) (apart_filter (λ r. r.at) (λ q. q.root_term == t) p.rules (distinct_apart (λ r. r.at) p.rules distinct)))
      ]

  -- the mask of a report of a term
  report_mask : (m : BuiltRule) (l : List BuiltRule) (s : ShadowReport) → In (shadow_report m l) s → s.mask ≡ m.rule.at
  report_mask m l s i = grind (arith, common_steps)

  -- a rule of a term's report
  record OfTerm (t : ℕ) (s : ShadowReport) : Type 0 where
    rule : TypedRule
    there : In p.rules rule
    term : rule.root_term ≡ t
    here : s.mask ≡ rule.at

  of_term : (t : ℕ) (s : ShadowReport) → In (shadow_reports_in (compared p t)) s → OfTerm t s
  of_term t s i = grind (arith, common_steps, from_flat_map, compared_means, built_of, in_filter, passed_filter, report_mask)

  masks_apart : Apart (λ s. s.mask) (shadow_reports p)
  masks_apart =
      apart_each (λ (t : ℕ). t) (λ s. s.mask) (λ t. shadow_reports_in (compared p t)) (terms_with_rules p)
      (apart_filter (λ (t : ℕ). t) (λ t. list_any (λ r. r.root_term == t) p.rules) (numbers_from 0 p.terms) (numbers_apart 0 p.terms))
      (λ t i.
      apart_each (λ b. b.rule.at) (λ s. s.mask) (λ q. shadow_report q (filter (shadows q) (compared p t))) (compared p t) (compared_apart t)
      (λ m j. grind (arith, common_steps))
      (λ m n a b u v x y e. sym (report_mask n (filter (shadows n) (compared p t)) b y) ∙ e ∙ report_mask m (filter (shadows m) (compared p t)) a x))
      (λ t u a b i j x y e. grind (arith, common_steps, of_term t a x, of_term u b y, apart_same (λ r. r.at) p.rules (distinct_apart (λ r. r.at) p.rules distinct)))

pub masks_are_reported_once_lem : (p : Program) → RulesHaveTerms p → HasDistinctPositions p → (t : ℕ) (m r : BuiltRule) → is_multi p t ≡ false
    → Contains (built_rules p t) m → Contains (built_rules p t) r → Shadows m r
    → IsOnlyOfMask (shadow_reports p) (record { mask = m.rule.at; shadowed = map (λ s. s.rule.at) (filter (shadows m) (built_rules p t)) })
masks_are_reported_once_lem p terms distinct t m r one i j h =
    let report : ShadowReport = record { mask = m.rule.at; shadowed = map (λ s. s.rule.at) (filter (shadows m) (built_rules p t)) } in
    let k = slice_in (shadow_reports p) (record { mask = m.rule.at; shadowed = map (λ s. s.rule.at) (filter (shadows m) (built_rules p t)) })
    (masked_there p terms t m r one (in_from_contains (built_rules p t) m i) (in_from_contains (built_rules p t) r j) h) in
    record {
      place = k.0;
      here = k.1;
      only = λ n s e f. apart_places (λ q. q.mask) (shadow_reports p) (masks_apart p distinct) n k.0 s _ e k.1 f;
    }

pub reported_masks_shadow_lem : (p : Program) (s : ShadowReport) → Contains (shadow_reports p) s
    → (t : ℕ) × (m : BuiltRule) × (r : BuiltRule) × Contains (built_rules p t) m × Contains (built_rules p t) r × Shadows m r
    × (s ≡ record { mask = m.rule.at; shadowed = map (λ u. u.rule.at) (filter (shadows m) (built_rules p t)) })
reported_masks_shadow_lem p s i = grind (arith, masked_means p s (in_from_contains (shadow_reports p) s i), in_from_contains (shadow_reports p) s i, contains_from_in)
