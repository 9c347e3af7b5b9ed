-- A limit that building reports is one that the rule at the report's position passes.
use Rattle.std.proofs.Common.{◌≡◌, ◌==◌, Bool, true, false, List, [], ◌∷◌, ◌++◌, length, map, take, filter, Option, Some, None, slice_get, refl, sym, ap, ◌∙◌, subst, inl, inr, arith}
use Rattle.std.proofs.Math.Seq.{take-append_seam}
use Rattle.std.proofs.lemmas.List.Elements.{All-contains}
use Rattle.std.proofs.lemmas.List.{append_assoc}
use Rattle.std.proofs.lemmas.Grind.{common_steps}
use Rattle.model.specs.lists.Syntax.{Position}
use Rattle.model.specs.rules.Typed.{TypedRule}
use Rattle.model.specs.rules.Program.{Program}
use Rattle.model.specs.sites.Sites.{SiteTerm}
use Rattle.model.specs.visits.Demands.{demands_of}
use Rattle.model.specs.sites.Closure.{reported}
use Rattle.model.specs.sites.Limits.{RuleLimit, PassesLimit, first_limit, sites_wanted, sites_after_rules}
use Rattle.model.specs.sites.Overlap.{RuleReport, limit_passed, not_reached, build_reports, build_reports_after, build_reports_of}
use Rattle.model.specs.claims.Refusals.{NamedLimit, of_rule, of_nesting, Refusal, past_limit, refusal_of, PassedInBuilding, rule_passes, sites_before}
use Rattle.model.specs.claims.Layers.{is_left_out}
use Rattle.laws_sites.specs.RefusalLaws.{ReportsNamePassedLimits}
use Rattle.model.proofs.Elements.{In, in_from_contains, contains_from_in, in_either, in_map}
use Rattle.model.proofs.Positions.{get_middle}
use Rattle.laws_sites.proofs.LimitsPassed.{first_limit_is_passed_lem}

-- 1. the limit and the position that an error names, where it names one
abbrev names_limit : Refusal → Bool
names_limit (past_limit limit at) = true
names_limit _ = false

abbrev limit_in : Refusal → NamedLimit
limit_in (past_limit limit at) = limit
limit_in _ = of_nesting

abbrev place_in : Position → Refusal → Position
place_in other (past_limit limit at) = at
place_in other _ = other

-- 2. the reports of one rule
module _ (p : Program) (l : NamedLimit) (at : Position) where
  abbrev Passed : Type 0
  Passed = PassedInBuilding p l at

  of_limit : (before : List SiteTerm) (r : TypedRule) (x : RuleReport) → refusal_of x ≡ past_limit l at
      → (o : Option RuleLimit) → first_limit p before r ≡ o
      → In (elim o as (λ _. List RuleReport) [ Some m ↦ limit_passed m r.at ∷ [] | None ↦ map (λ why. not_reached why r.at) (reported (sites_wanted p before r) (demands_of p r)) ]) x
      → (m : RuleLimit) × (first_limit p before r ≡ Some m) × (of_rule m ≡ l) × (r.at ≡ at)
  of_limit before r x e o f i = grind (arith, common_steps, in_map)

  reported_after : (done rs : List TypedRule) → done ++ rs ≡ p.rules → (x : RuleReport) → In (build_reports_after p done rs) x → refusal_of x ≡ past_limit l at → Passed
  reported_after done [] h x i e = absurd i
  reported_after done (r ∷ rs) h x i e =
      let before = sites_after_rules p [] (filter (λ q. q.root_term == r.root_term) done) in
      elim (in_either (build_reports_of p before r) (build_reports_after p (done ++ r ∷ []) rs) x i) [
        | inl a ↦
            let m = of_limit before r x e (first_limit p before r) refl a in
            let same : take (length done) p.rules ≡ done = ap (take (length done)) (sym h) ∙ take-append_seam done (r ∷ rs) in
            let here : slice_get p.rules (length done) ≡ Some r = ap (λ t. slice_get t (length done)) (sym h) ∙ get_middle done r rs in
            let passes : PassesLimit p (sites_before p (length done) r) r m.0 =
            subst (λ t. PassesLimit p (sites_after_rules p [] (filter (λ q. q.root_term == r.root_term) t)) r m.0) (sym same) (first_limit_is_passed_lem p before r m.0 m.1) in
            subst (λ k. PassedInBuilding p k at) m.2 (subst (PassedInBuilding p (of_rule m.0)) m.3 (rule_passes (length done) r m.0 here passes))
        | inr b ↦ reported_after (done ++ r ∷ []) rs (append_assoc done (r ∷ []) rs ∙ h) x b e
      ]

  later_names_none : (r : RuleReport) → is_left_out r ≡ false → refusal_of r ≡ past_limit l at → ⊥
  later_names_none r h e = grind (arith, common_steps)

pub reports_name_passed_limits_lem : ReportsNamePassedLimits
reports_name_passed_limits_lem p = (
  (λ l at c.
      let x = in_map refusal_of (build_reports p) (past_limit l at) (in_from_contains (map refusal_of (build_reports p)) (past_limit l at) c) in
      reported_after p l at [] p.rules refl x.0 x.1 x.2),
  (λ later all l at c.
      let x = in_map refusal_of (build_reports p ++ later) (past_limit l at) (in_from_contains (map refusal_of (build_reports p ++ later)) (past_limit l at) c) in
      elim (in_either (build_reports p) later x.0 x.1) [
        | inl i ↦ reported_after p l at [] p.rules refl x.0 i x.2
        | inr i ↦ absurd (later_names_none p l at x.0 (All-contains (λ r. is_left_out r ≡ false) later x.0 all (contains_from_in later x.0 i)) x.2)
      ]),
)
