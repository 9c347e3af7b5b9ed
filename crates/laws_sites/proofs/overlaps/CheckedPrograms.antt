-- Nothing is reported of a program exactly where all its rules are built, none overlap wrongly, and none is shadowed.
use Rattle.std.proofs.Common.{◌≡◌, ◌↔◌, ◌==◌, ℕ, ◌≤◌, true, false, not, ◌&&◌, is_none, List, [], ◌∷◌, ◌++◌, map, length, Option, Some, None, filter, refl, sym, ap, ◌∙◌, subst, inl, inr, arith, eq-eqb}
use Rattle.std.proofs.lemmas.Bool.{cases_Bool, cond-true, cond-false, false≢true, not-true}
use Rattle.std.proofs.lemmas.List.{append-nil}
use Rattle.std.proofs.lemmas.List.Elements.{filter-append}
use Rattle.std.proofs.lemmas.Grind.{common_steps}
use Rattle.model.specs.rules.Typed.{TypedRule}
use Rattle.model.specs.rules.Program.{Program, rules_of}
use Rattle.model.specs.sites.Sites.{SiteTerm}
use Rattle.model.specs.visits.Demands.{demands_of}
use Rattle.model.specs.sites.Closure.{is_unreachable, reported}
use Rattle.model.specs.sites.Limits.{RuleLimit, first_limit, sites_wanted, sites_after_rule, sites_after_rules}
use Rattle.model.specs.sites.Overlap.{BuiltRule, is_built, built_rule, built_from, built_rules, wrong_overlaps, overlap_reports, shadow_reports, RuleReport, limit_passed, not_reached, rules_overlap, rule_shadows, build_reports_of, build_reports_after, build_reports, with_report, by_position, overlap_and_shadow_reports, check_reports}
use Rattle.model.specs.claims.Layers.{IsCheckable}
use Rattle.laws_sites.specs.ReportLaws.{RulesHaveTerms}
use Rattle.model.proofs.Elements.{in_from_contains, contains_from_in, in_slice, slice_in}
use Rattle.laws_sites.proofs.Reports.{reports_are_exact_lem}
use Rattle.laws_sites.proofs.Settled.{verdict_is_exact_lem}
use Rattle.laws_sites.proofs.overlaps.ReportedOverlaps.{wrong_means, wrong_there, masked_means, masked_there}
use Rattle.model.proofs.Mapped.{nothing_mapped}
use Rattle.model.proofs.FewElements.{nothing_if_none, none_in, not_empty}

no_parts : {X : Type 0} (xs ys : List X) → (xs ++ ys) ≡ [] → (xs ≡ []) × (ys ≡ [])
no_parts [] ys e = (refl, e)
no_parts (x ∷ xs) ys e = absurd (not_empty x (xs ++ ys) e)

append_empty : {X : Type 0} (xs ys : List X) → xs ≡ [] → ys ≡ [] → (xs ++ ys) ≡ []
append_empty xs ys e f = ap (λ l. l ++ ys) e ∙ f

module _ (p : Program) where
  -- rules that are all built
  abbrev AllBuilt : List SiteTerm → List TypedRule → Type 0
  AllBuilt before [] = Unit {0}
  AllBuilt before (r ∷ rs) = (is_built p before r ≡ true) × AllBuilt (sites_after_rule p before r) rs

  pub built_on : (before : List SiteTerm) (r : TypedRule) (rs : List TypedRule) → is_built p before r ≡ true
      → built_from p before (r ∷ rs) ≡ built_rule p before r ∷ built_from p (sites_after_rule p before r) rs
  built_on before r rs t = ap (λ l. l ++ built_from p (sites_after_rule p before r) rs) (cond-true (is_built p before r) (built_rule p before r ∷ []) [] t)

  pub left_out : (before : List SiteTerm) (r : TypedRule) (rs : List TypedRule) → is_built p before r ≡ false
      → built_from p before (r ∷ rs) ≡ built_from p (sites_after_rule p before r) rs
  left_out before r rs f = ap (λ l. l ++ built_from p (sites_after_rule p before r) rs) (cond-false (is_built p before r) (built_rule p before r ∷ []) [] f)

  abbrev rules_in : List BuiltRule → List TypedRule
  rules_in bs = map (λ b. b.rule) bs

  no_more : (before : List SiteTerm) (rs : List TypedRule) → length (rules_in (built_from p before rs)) ≤ length rs
  no_more before [] = omega arith
  no_more before (r ∷ rs) = grind (arith, common_steps, no_more (sites_after_rule p before r) rs, built_on, left_out)

  all_kept : (before : List SiteTerm) (rs : List TypedRule) → AllBuilt before rs → rules_in (built_from p before rs) ≡ rs
  all_kept before [] h = refl
  all_kept before (r ∷ rs) h = ap rules_in (built_on before r rs h.0) ∙ ap (λ l. r ∷ l) (all_kept (sites_after_rule p before r) rs h.1)

  kept_all : (before : List SiteTerm) (rs : List TypedRule) → rules_in (built_from p before rs) ≡ rs → AllBuilt before rs
  kept_all before [] e = tt
  kept_all before (r ∷ rs) e =
      let rest : List TypedRule = rules_in (built_from p (sites_after_rule p before r) rs) in
      elim (cases_Bool (is_built p before r)) [
        | inl t ↦ (t, kept_all (sites_after_rule p before r) rs (grind arith))
        | inr f ↦ grind (arith, common_steps, no_more (sites_after_rule p before r) rs, left_out before r rs f)
      ]

  -- nothing is reported of a rule exactly where it is built
  abbrev reports_by : List SiteTerm → TypedRule → Option RuleLimit → List RuleReport
  reports_by before r o = elim o [ Some l ↦ limit_passed l r.at ∷ [] | None ↦ map (λ why. not_reached why r.at) (reported (sites_wanted p before r) (demands_of p r)) ]

  silent : (before : List SiteTerm) (r : TypedRule) (o : Option RuleLimit) → reports_by before r o ≡ [] → (is_none o && not (is_unreachable (demands_of p r))) ≡ true
  silent before r (Some l) e = absurd (not_empty (limit_passed l r.at) [] e)
  silent before r None e =
      let n = (reports_are_exact_lem (sites_wanted p before r) (demands_of p r)).0 (nothing_mapped (λ why. not_reached why r.at) (reported (sites_wanted p before r) (demands_of p r)) e) in
      elim (cases_Bool (is_unreachable (demands_of p r))) [
        | inl t ↦ absurd (n ((verdict_is_exact_lem (demands_of p r)).0 t))
        | inr f ↦ ap not f
      ]

  pub built_silent : (before : List SiteTerm) (r : TypedRule) (o : Option RuleLimit) → (is_none o && not (is_unreachable (demands_of p r))) ≡ true → reports_by before r o ≡ []
  built_silent before r (Some l) e = absurd (false≢true e)
  built_silent before r None e =
      ap (map (λ why. not_reached why r.at))
      ((reports_are_exact_lem (sites_wanted p before r) (demands_of p r)).1 (λ u. false≢true (sym (not-true (is_unreachable (demands_of p r)) e) ∙ (verdict_is_exact_lem (demands_of p r)).1 u)))

  abbrev of_term : ℕ → List TypedRule → List TypedRule
  of_term t rs = filter (λ q. q.root_term == t) rs

  abbrev sites_so_far : ℕ → List TypedRule → List SiteTerm
  sites_so_far t done = sites_after_rules p [] (of_term t done)

  pub sites_on : (before : List SiteTerm) (rs : List TypedRule) (r : TypedRule) → sites_after_rules p before (rs ++ r ∷ []) ≡ sites_after_rule p (sites_after_rules p before rs) r
  sites_on before [] r = refl
  sites_on before (x ∷ xs) r = sites_on (sites_after_rule p before x) xs r

  pub one_more : (t : ℕ) (done : List TypedRule) (r : TypedRule) → (r.root_term == t) ≡ true → sites_so_far t (done ++ r ∷ []) ≡ sites_after_rule p (sites_so_far t done) r
  one_more t done r h = grind (arith, common_steps, filter-append, sites_on)

  pub another : (t : ℕ) (done : List TypedRule) (r : TypedRule) → (r.root_term == t) ≡ false → sites_so_far t (done ++ r ∷ []) ≡ sites_so_far t done
  another t done r h = grind (arith, common_steps, filter-append, append-nil)

  all_of_term : (t : ℕ) (done rs : List TypedRule) → build_reports_after p done rs ≡ [] → AllBuilt (sites_so_far t done) (of_term t rs)
  all_of_term t done [] e = tt
  all_of_term t done (r ∷ rs) e =
      let q = no_parts (build_reports_of p (sites_so_far r.root_term done) r) (build_reports_after p (done ++ r ∷ []) rs) e in
      let later = all_of_term t (done ++ r ∷ []) rs q.1 in
      elim (cases_Bool (r.root_term == t)) [
        | inl h ↦ grind (arith, common_steps, silent (sites_so_far r.root_term done) r (first_limit p (sites_so_far r.root_term done) r) q.0, one_more t done r h)
        | inr h ↦ grind (arith, common_steps, another t done r h)
      ]

  none_reported : (done rs : List TypedRule) → ((t : ℕ) → AllBuilt (sites_so_far t done) (of_term t rs)) → build_reports_after p done rs ≡ []
  none_reported done [] f = refl
  none_reported done (r ∷ rs) f =
      append_empty (build_reports_of p (sites_so_far r.root_term done) r) (build_reports_after p (done ++ r ∷ []) rs)
      (built_silent (sites_so_far r.root_term done) r (first_limit p (sites_so_far r.root_term done) r) (at_head r.root_term (eq-eqb r.root_term r.root_term refl)).0)
      (grind (arith, common_steps, none_reported (done ++ r ∷ []) rs, one_more, another))
    where
      at_head : (t : ℕ) → (r.root_term == t) ≡ true → (is_built p (sites_so_far t done) r ≡ true) × AllBuilt (sites_after_rule p (sites_so_far t done) r) (of_term t rs)
      at_head t h = subst (AllBuilt (sites_so_far t done)) (cond-true (r.root_term == t) (r ∷ of_term t rs) (of_term t rs) h) (f t)

  filled : (a : RuleReport) (bs : List RuleReport) → with_report a bs ≡ [] → ⊥
  filled a [] e = not_empty a [] e
  filled a (b ∷ bs) e = grind (arith, common_steps, not_empty)

  sorted_empty : (rs : List RuleReport) → by_position rs ≡ [] → rs ≡ []
  sorted_empty [] e = refl
  sorted_empty (r ∷ rs) e = absurd (filled r (by_position rs) e)

  none_overlap : (pairs : _) → overlap_reports pairs ≡ [] → pairs ≡ []
  none_overlap pairs e = grind (arith, common_steps, not_empty)

  checkable : RulesHaveTerms p → check_reports p ≡ [] → IsCheckable p
  checkable terms e =
      let both = no_parts (build_reports p) (overlap_and_shadow_reports p) e in
      let later = no_parts (map rules_overlap (overlap_reports (wrong_overlaps p))) (map rule_shadows (shadow_reports p)) (sorted_empty (map rules_overlap (overlap_reports (wrong_overlaps p)) ++ map rule_shadows (shadow_reports p)) both.1) in
      let wrong = none_overlap (wrong_overlaps p) (nothing_mapped rules_overlap (overlap_reports (wrong_overlaps p)) later.0) in
      let masks = nothing_mapped rule_shadows (shadow_reports p) later.1 in
      record {
        built = λ t. all_kept [] (rules_of p t) (all_of_term t [] p.rules both.0);
        overlaps = λ t i j o. none_in (wrong_overlaps p) wrong (o.first.rule.at, o.second.rule.at) (wrong_there p terms t i j o);
        shadows = λ t i s. none_in (shadow_reports p) masks _ (masked_there p terms t s.mask s.shadowed s.one_result (in_from_contains (built_rules p t) s.mask s.other) (in_slice (built_rules p t) i s.shadowed s.here) s.shadows);
      }

  unreported : IsCheckable p → check_reports p ≡ []
  unreported f =
      let wrong = nothing_if_none (wrong_overlaps p) (λ e i. let w = wrong_means p e i in f.overlaps w.term w.earlier w.later w.overlap) in
      let masks = nothing_if_none (shadow_reports p)
      (λ s i.
      let w = masked_means p s i in
      let k = slice_in (built_rules p w.term) w.shadowed w.other in
      f.shadows w.term k.0 (record {
        mask = w.mask;
        shadowed = w.shadowed;
        one_result = w.one_result;
        other = contains_from_in (built_rules p w.term) w.mask w.masking;
        here = k.1;
        shadows = w.hides;
      })) in
      append_empty (build_reports p) (overlap_and_shadow_reports p)
      (none_reported [] p.rules (λ t. kept_all [] (rules_of p t) (f.built t)))
      (ap (λ w. by_position (map rules_overlap (overlap_reports w) ++ map rule_shadows (shadow_reports p))) wrong ∙ ap (λ s. by_position (map rule_shadows s)) masks)

pub check_is_exact_lem : (p : Program) → RulesHaveTerms p → (check_reports p ≡ []) ↔ IsCheckable p
check_is_exact_lem p terms = (checkable p terms, unreported p)
