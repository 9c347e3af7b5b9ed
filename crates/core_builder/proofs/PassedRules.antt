-- The set of a term goes on past a rule: the rule is left out for a limit or since it can't be reached, or it is added.
use Rattle.std.proofs.Common.{◌≡◌, ◌==◌, ℕ, ◌<◌, ◌≤◌, true≢false, true, false, List, [], ◌∷◌, ◌++◌, length, map, take, All, None, Contains, refl, sym, ap, ◌∙◌, subst, inl, inr, arith}
use Rattle.std.proofs.lemmas.Bool.{cases_Bool, cond-true, cond-false}
use Rattle.std.proofs.lemmas.List.Elements.{All-contains, All-head, All-tail}
use Rattle.std.proofs.lemmas.Grind.{common_steps}
use Rattle.core_syntax.specs.Stable.{contains}
use Rattle.model.specs.rules.Program.{Program}
use Rattle.model.specs.rules.Typed.{TypedRule}
use Rattle.model.specs.sites.Sites.{Site, SetRule, SiteSet, SiteTerm, unfold_site}
use Rattle.model.specs.visits.Demands.{demands_of, visit_rule, with_sites}
use Rattle.model.specs.sites.Closure.{Unreachability, before_closing, closed, closing, is_unreachable, most_closing_steps, reported}
use Rattle.model.specs.sites.Limits.{RuleLimit, first_limit, most_sites, sites_after_rule, sites_limit, sites_reached, sites_until, sites_wanted}
use Rattle.model.specs.sites.Overlap.{RuleReport, built_rule, limit_passed, not_reached}
use Rattle.model.specs.sites.RuleSets.{GoesOver, IsRuleOf, StandFor}
use Rattle.model.proofs.Elements.{contains_from_in, in_from_contains}
use Rattle.model.proofs.Members.{all_members}
use Rattle.laws_sites.specs.RuleByRule.{GoesPast, HaveGrown, limit_met, rule_added, rule_unreachable}
use Rattle.laws_sites.proofs.Limits.{limits_are_met_lem}
use Rattle.laws_sites.proofs.building.Listed.{listed_demands_stand_lem}
use Rattle.laws_sites.proofs.Reports.{reports_are_exact_lem}
use Rattle.laws_sites.proofs.Settled.{verdict_is_exact_lem}
use Rattle.core_typed.specs.RuleViews.{rule_view}
use Rattle.core_typed.specs.declared.rules.Rule.{Rule}
use Rattle.core_rule_sets.specs.Closings.{GoOn}
use Rattle.core_rule_sets.specs.SiteTables.{AreFirst, IsTable}
use Rattle.core_rule_sets.specs.SiteViews.{member_sites}
use Rattle.core_builder.specs.AddedRules.{IsListed}
use Rattle.core_builder.specs.VisitedSites.{IsSiteOf, MeetsLimit, BuilderStandsAt, built_sites}
use Rattle.core_builder.specs.declared.ruleset_builder.RuleSetBuilder.{RuleSetBuilder}
use Rattle.core_builder.proofs.EndedRules.{too_many}
use Rattle.core_builder.proofs.GrownSites.{StayFirst, stays_closed, stays_in_front, table_grown}
use Rattle.core_builder.proofs.PassingSites.{from_passing, in_passing, passing_once}

abbrev pub set_with : List SetRule → List Site → SiteSet
set_with rules sites = record { rules = rules; sites = sites }

-- sites that go no further
same_grown : (b : RuleSetBuilder) → IsTable b.table → HaveGrown (built_sites b) (built_sites b)
same_grown b table = record { kept = λ s l. refl; longer = omega arith; few = table.few; sources = table.sources }

-- a set goes on that has grown before
grown_then : (old mid new : List Site) → HaveGrown mid new → ((s : ℕ) → s < length old → unfold_site mid s ≡ unfold_site old s) → length old ≤ length mid → HaveGrown old new
grown_then old mid new g kept longer = grind (arith, common_steps)

module _ (p : Program) (before : List SiteTerm) (r : TypedRule) (rules : List SetRule) where
  -- 1. a limit is met
  pub passes_limit : (old : List Site) (whole : List SiteTerm) (b : RuleSetBuilder) (limit : RuleLimit) → StandFor old whole → StayFirst whole (sites_after_rule p before r) → MeetsLimit p before r b limit
      → GoesPast p before r (set_with rules old) (set_with rules (built_sites b)) (limit_passed limit r.at ∷ [])
  passes_limit old whole b limit stand stay m =
      limit_met limit (table_grown old b.table whole (sites_after_rule p before r) m.sites.table stand m.sites.stand stay) m.first m.sites.stand refl

  -- 2. the rule can't be reached
  module _ (b : RuleSetBuilder) (h : BuilderStandsAt before b (visit_rule p r).visit) where
    no_limit : (wanted : List SiteTerm) → sites_wanted p before r ≡ wanted → (sites : List Site) → length sites ≤ most_sites → StandFor sites wanted → first_limit p before r ≡ None
    no_limit wanted e sites few stand = grind (arith, common_steps, limits_are_met_lem p before r)

    pub reachable_if : reported (with_sites before (demands_of p r).made) (demands_of p r) ≡ [] → is_unreachable (demands_of p r) ≡ false
    reachable_if e =
        elim (cases_Bool (is_unreachable (demands_of p r))) [
          | inl t ↦ absurd ((reports_are_exact_lem (with_sites before (demands_of p r).made) (demands_of p r)).0 e ((verdict_is_exact_lem (demands_of p r)).0 t))
          | inr f ↦ f
        ]

    unreachable_if : (u : Unreachability) (us : List Unreachability) → reported (with_sites before (demands_of p r).made) (demands_of p r) ≡ u ∷ us → is_unreachable (demands_of p r) ≡ true
    unreachable_if u us e =
        elim (cases_Bool (is_unreachable (demands_of p r))) [
          | inl t ↦ t
          | inr f ↦
              absurd (some_reported (sym e ∙ (reports_are_exact_lem (with_sites before (demands_of p r).made) (demands_of p r)).1
              (λ i. true≢false (sym ((verdict_is_exact_lem (demands_of p r)).1 i) ∙ f))))
        ]
      where
        some_reported : u ∷ us ≡ [] → ⊥
        some_reported x = absurd cc

    pub passes_unreachable : (u : Unreachability) (us : List Unreachability) → reported (with_sites before (demands_of p r).made) (demands_of p r) ≡ u ∷ us
        → GoesPast p before r (set_with rules (built_sites b)) (set_with rules (built_sites b)) (map (λ why. not_reached why r.at) (u ∷ us))
    passes_unreachable u us e =
        let d = demands_of p r in
        let t = unreachable_if u us e in
        let wanted = cond-true (is_unreachable d) (with_sites before d.made) (closed before d).made t in
        subst (λ ws. GoesPast p before r (set_with rules (built_sites b)) (set_with rules (built_sites b)) (map (λ why. not_reached why r.at) ws)) e
        (rule_unreachable (same_grown b h.table) (no_limit (with_sites before d.made) wanted (built_sites b) h.table.few h.demands.stand) t h.demands.stand refl)

    -- 3. the rule is added, or its closing ends for want of room
    module _ (reachable : is_unreachable (demands_of p r) ≡ false) where
      closed_wanted : sites_wanted p before r ≡ (closed before (demands_of p r)).made
      closed_wanted = cond-false (is_unreachable (demands_of p r)) (with_sites before (demands_of p r).made) (closed before (demands_of p r)).made reachable

      closed_reached : sites_reached p before r ≡ (closed before (demands_of p r)).made
      closed_reached = ap (sites_until p before r) h.few ∙ closed_wanted

      -- its closing ended for want of room
      pub closing_full_met : (after : RuleSetBuilder) → IsTable after.table → AreFirst (built_sites after) (closing most_closing_steps (before_closing before (demands_of p r))).made → MeetsLimit p before r after sites_limit
      closing_full_met after table first =
          too_many p before r after table
          (subst (AreFirst (built_sites after)) (sym closed_reached) first)

      -- the sites of the visit stay then
      pub visited_stay : StayFirst (with_sites before (demands_of p r).made) (sites_after_rule p before r)
      visited_stay =
          subst (λ ts. StayFirst (with_sites before (demands_of p r).made) (take most_sites ts))
          (sym closed_reached)
          (stays_in_front (with_sites before (demands_of p r).made) (closed before (demands_of p r)).made (let n = h.demands.stand.count in let few = h.table.few in omega (arith, n, few)) (stays_closed before (demands_of p r)))

      module _ (after : RuleSetBuilder) (table : IsTable after.table) (go : GoOn (built_sites b) (built_sites after) after.demanded (closing most_closing_steps (before_closing before (demands_of p r))))
          (same_iterators : after.iterators ≡ b.iterators) (same_impure : after.impure ≡ b.impure) where
        further : (s : ℕ) → s < length (built_sites b) → s < length (built_sites after)
        further s l = let m = go.longer in omega (arith, l, m)

        pub closed_grown : HaveGrown (built_sites b) (built_sites after)
        closed_grown = record { kept = go.kept; longer = go.longer; few = table.few; sources = table.sources }

        all_kept : (ns : List ℕ) → All (λ n. n < length (built_sites b)) ns → map (unfold_site (built_sites after)) ns ≡ map (unfold_site (built_sites b)) ns
        all_kept [] l = refl
        all_kept (n ∷ ns) l =
            let e = go.kept n (All-head (λ n. n < length (built_sites b)) n ns l) in
            let m = all_kept ns (All-tail (λ n. n < length (built_sites b)) n ns l) in
            (λ k. e k ∷ m k)

        goes_over : GoesOver (built_sites after) (demands_of p r).iterators (member_sites b.iterators)
        goes_over = record {
          gone_over = λ s i.
              let m = from_passing 65536 (contains ◌==◌ b.iterators) s (in_from_contains (member_sites b.iterators) s i) in
              let g = h.gone_over s m.1 in
              (further s g.0, subst (Contains (demands_of p r).iterators) (sym (go.kept s g.0)) g.1);
          all_gone_over = λ u i.
              let a = h.all_gone_over u i in
              let g = h.gone_over a.0 a.1 in
              let l = g.0 in
              let few = h.table.few in
              (a.0, contains_from_in (member_sites b.iterators) a.0 (in_passing 65536 (contains ◌==◌ b.iterators) a.0 (omega (arith, l, few)) a.1), go.kept a.0 g.0 ∙ a.2);
          once = passing_once 65536 (contains ◌==◌ b.iterators);
        }

        is_rule : (from : Rule) (value : ℕ) (rule : SetRule) → rule_view from ≡ r → IsSiteOf b (visit_rule p r).site value
            → IsListed after (closing most_closing_steps (before_closing before (demands_of p r))) from value rule → IsRuleOf p (built_sites after) (built_rule p before r) rule
        is_rule from value rule view site l =
            let asked = listed_demands_stand_lem (built_sites after) before (demands_of p r) rule.constraints rule.classes l.demands in
            let impure = l.impure ∙ ap (λ v. v.items) same_impure in
            record {
              id = l.id ∙ ap (λ (q : TypedRule). q.id) view;
              at = l.at ∙ ap (λ (q : TypedRule). q.at) view;
              prio = l.prio ∙ ap (λ (q : TypedRule). q.prio) view;
              name = l.name ∙ ap (λ (q : TypedRule). q.name) view;
              constraints = asked.0;
              classes = asked.1;
              iterators = subst (GoesOver (built_sites after) (demands_of p r).iterators) (sym (l.iterators ∙ ap member_sites same_iterators)) goes_over;
              impure = (
                subst (All (λ n. n < length (built_sites after))) (sym impure)
                    (all_members (λ n. n < length (built_sites after)) b.impure.items (λ n i. further n (All-contains (λ n. n < length (built_sites b)) b.impure.items n h.impure.within i))),
                ap (map (unfold_site (built_sites after))) impure ∙ all_kept b.impure.items h.impure.within ∙ h.impure.numbers,
              );
              result = grind (arith, common_steps, further value site.within);
            }

        pub passes_added : (from : Rule) (value : ℕ) (rule : SetRule) (more : List SetRule) → more ≡ rules ++ rule ∷ [] → rule_view from ≡ r → IsSiteOf b (visit_rule p r).site value
            → IsListed after (closing most_closing_steps (before_closing before (demands_of p r))) from value rule
            → GoesPast p before r (set_with rules (built_sites b)) (set_with more (built_sites after)) []
        passes_added from value rule more last view site l =
            rule_added rule closed_grown (no_limit (closed before (demands_of p r)).made closed_wanted (built_sites after) table.few go.demands.stand)
            reachable go.demands.stand last (is_rule from value rule view site l)

-- from a set before, whose sites were kept
pub goes_past_from : (p : Program) (before : List SiteTerm) (r : TypedRule) (old mid new : SiteSet) (said : List RuleReport) → mid.rules ≡ old.rules → ((s : ℕ) → s < length old.sites → unfold_site mid.sites s ≡ unfold_site old.sites s) → length old.sites ≤ length mid.sites
    → GoesPast p before r mid new said → GoesPast p before r old new said
goes_past_from p before r old mid new said same kept longer (rule_added rule g none reachable stand rules is_rule) =
    rule_added rule (grown_then old.sites mid.sites new.sites g kept longer) none reachable stand (rules ∙ ap (λ l. l ++ rule ∷ []) same) is_rule
goes_past_from p before r old mid new said same kept longer (rule_unreachable g none cant stand rules) =
    rule_unreachable (grown_then old.sites mid.sites new.sites g kept longer) none cant stand (rules ∙ same)
goes_past_from p before r old mid new said same kept longer (limit_met limit g first stand rules) =
    limit_met limit (grown_then old.sites mid.sites new.sites g kept longer) first stand (rules ∙ same)
