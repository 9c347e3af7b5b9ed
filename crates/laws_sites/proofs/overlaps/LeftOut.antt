-- A rule that isn't built is reported at its position, and each report of building is of such a rule.
use Rattle.std.proofs.Common.{◌≡◌, ◌==◌, ℕ, zero, suc, Bool, true, false, not, ◌&&◌, is_none, List, [], ◌∷◌, ◌++◌, map, take, filter, Option, Some, None, slice_get, refl, sym, ap, ◌∙◌, subst, inl, inr, arith}
use Rattle.std.proofs.Math.Seq.{take-append_seam}
use Rattle.std.proofs.lemmas.Bool.{cases_Bool, false≢true}
use Rattle.std.proofs.lemmas.List.{append-nil, append_assoc}
use Rattle.std.proofs.lemmas.Option.{none-some, same_Some}
use Rattle.std.proofs.lemmas.Grind.{common_steps}
use Rattle.model.specs.rules.Typed.{TypedRule}
use Rattle.model.specs.rules.Program.{Program}
use Rattle.model.specs.sites.Sites.{SiteTerm}
use Rattle.model.specs.visits.Demands.{demands_of}
use Rattle.model.specs.sites.Closure.{is_unreachable, reported}
use Rattle.model.specs.sites.Limits.{RuleLimit, first_limit, sites_wanted, sites_after_rules}
use Rattle.model.specs.sites.Overlap.{is_built, RuleReport, limit_passed, not_reached, report_position, build_reports_of, build_reports_after, build_reports}
use Rattle.model.specs.claims.Layers.{is_left_out}
use Rattle.model.proofs.Elements.{In, in_from_contains, contains_from_in, in_left, in_right, in_either, in_map, map_in}
use Rattle.model.proofs.Positions.{get_middle}
use Rattle.laws_sites.proofs.Reports.{reports_are_exact_lem}
use Rattle.laws_sites.proofs.Settled.{verdict_is_exact_lem}
use Rattle.laws_sites.specs.LeftOutLaws.{IsOfLeftOut, LeftOutRulesAreReported}

first_of : {X : Type 0} (xs : List X) → (xs ≡ [] → ⊥) → (x : X) × In xs x
first_of [] f = absurd (f refl)
first_of (x ∷ xs) f = (x, inl refl)

empty_has_none : {X : Type 0} (xs : List X) (x : X) → xs ≡ [] → In xs x → ⊥
empty_has_none xs x e i = subst (λ l. In l x) e i

module _ (p : Program) where
  abbrev reports_by : List SiteTerm → TypedRule → Option RuleLimit → List RuleReport
  reports_by before r o = elim o [ Some l ↦ limit_passed l r.at ∷ [] | None ↦ map (λ why. not_reached why r.at) (reported (sites_wanted p before r) (demands_of p r)) ]

  abbrev built_by : TypedRule → Option RuleLimit → Bool
  built_by r o = is_none o && not (is_unreachable (demands_of p r))

  -- of one rule
  said : (before : List SiteTerm) (r : TypedRule) (o : Option RuleLimit) → built_by r o ≡ false → (x : RuleReport) × In (reports_by before r o) x × (report_position x ≡ r.at)
  said before r (Some l) e = (limit_passed l r.at, inl refl, refl)
  said before r None e =
      let t : is_unreachable (demands_of p r) ≡ true = grind (arith, common_steps) in
      let why = first_of (reported (sites_wanted p before r) (demands_of p r))
      (λ n. (reports_are_exact_lem (sites_wanted p before r) (demands_of p r)).0 n ((verdict_is_exact_lem (demands_of p r)).0 t)) in
      (not_reached why.0 r.at, map_in (λ w. not_reached w r.at) (reported (sites_wanted p before r) (demands_of p r)) why.0 why.1, refl)

  own : (before : List SiteTerm) (r : TypedRule) (o : Option RuleLimit) (x : RuleReport) → In (reports_by before r o) x → (report_position x ≡ r.at) × (built_by r o ≡ false)
  own before r (Some l) x (inl same) = (ap report_position (sym same), refl)
  own before r (Some l) x (inr i) = absurd i
  own before r None x i =
      let w = in_map (λ why. not_reached why r.at) (reported (sites_wanted p before r) (demands_of p r)) x i in (
        ap report_position (sym w.2),
        elim (cases_Bool (is_unreachable (demands_of p r))) [
          | inl t ↦ ap not t
          | inr f ↦ absurd (empty_has_none (reported (sites_wanted p before r) (demands_of p r)) w.0
              ((reports_are_exact_lem (sites_wanted p before r) (demands_of p r)).1 (λ u. false≢true (sym f ∙ (verdict_is_exact_lem (demands_of p r)).1 u))) w.1)
        ],
      )

  abbrev sites_for : TypedRule → List TypedRule → List SiteTerm
  sites_for r done = sites_after_rules p [] (filter (λ q. q.root_term == r.root_term) done)

  -- of all rules
  there : (done rs : List TypedRule) (i : ℕ) (r : TypedRule) → slice_get rs i ≡ Some r → is_built p (sites_for r (done ++ take i rs)) r ≡ false
      → (x : RuleReport) × In (build_reports_after p done rs) x × (report_position x ≡ r.at)
  there done [] i r e f = absurd (none-some r e)
  there done (q ∷ rs) zero r e f =
      let same : q ≡ r = same_Some q r e in
      let g : is_built p (sites_for q done) q ≡ false = subst (λ d. is_built p (sites_for q d) q ≡ false) (append-nil done) (subst (λ u. is_built p (sites_for u (done ++ [])) u ≡ false) (sym same) f) in
      let s = said (sites_for q done) q (first_limit p (sites_for q done) q) g in
      (s.0, in_left (build_reports_of p (sites_for q done) q) (build_reports_after p (done ++ q ∷ []) rs) s.0 s.1, s.2 ∙ ap (λ u. u.at) same)
  there done (q ∷ rs) (suc i) r e f = grind (arith, common_steps, there (done ++ q ∷ []) rs i r e, append_assoc, in_right)

  back : (done rs : List TypedRule) → done ++ rs ≡ p.rules → (x : RuleReport) → In (build_reports_after p done rs) x → IsOfLeftOut p x
  back done [] h x i = absurd i
  back done (r ∷ rs) h x i =
      elim (in_either (build_reports_of p (sites_for r done) r) (build_reports_after p (done ++ r ∷ []) rs) x i) [
        | inl a ↦ grind (arith, common_steps, own (sites_for r done) r (first_limit p (sites_for r done) r) x a, take-append_seam done (r ∷ rs), get_middle done r rs)
        | inr b ↦ back (done ++ r ∷ []) rs (append_assoc done (r ∷ []) rs ∙ h) x b
      ]

  -- those of one rule stand at it
  pub reports_of_rule : (before : List SiteTerm) (r : TypedRule) (x : RuleReport) → In (build_reports_of p before r) x → (is_left_out x ≡ true) × (report_position x ≡ r.at)
  reports_of_rule before r x i = ((grind (arith, common_steps, in_map)), (own before r (first_limit p before r) x i).0)

  all_left_out : (done rs : List TypedRule) (x : RuleReport) → In (build_reports_after p done rs) x → is_left_out x ≡ true
  all_left_out done [] x i = absurd i
  all_left_out done (r ∷ rs) x i = grind (arith, common_steps, all_left_out (done ++ r ∷ []) rs x, in_either, in_map)

  pub build_reports_are_left_out : (x : RuleReport) → In (build_reports p) x → is_left_out x ≡ true
  build_reports_are_left_out x i = all_left_out [] p.rules x i

pub left_out_rules_are_reported_lem : LeftOutRulesAreReported
left_out_rules_are_reported_lem p = grind (arith, there p [] p.rules, contains_from_in (build_reports p), back p [] p.rules refl, in_from_contains (build_reports p))
