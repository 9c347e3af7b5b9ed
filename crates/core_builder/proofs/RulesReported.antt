-- A set goes on past a rule, and errors are added: each case with what is reported.
use Rattle.std.proofs.Common.{◌≡◌, ℕ, ◌<◌, ◌≤◌, false, List, [], ◌∷◌, ◌++◌, ◌==◌, true≢false, Bool, true, length, map, vec_len, if◌then◌else◌, Result, OnOk, refl, sym, ap, ◌∙◌, subst, append-nil, arith}
use Rattle.std.specs.Global.{Vec}
use Rattle.std.proofs.lemmas.Grind.{common_steps}
use Rattle.core_syntax.specs.SyntaxViews.{position}
use Rattle.core_syntax.specs.declared.syntax.Error.{Error}
use Rattle.core_syntax.specs.declared.syntax.Limit.{Limit}
use Rattle.core_syntax.specs.declared.syntax.Limit.TheVariants as Limits
use Rattle.core_syntax.specs.declared.syntax.Pos.{Pos}
use Rattle.core_syntax.specs.declared.visit_fault.VisitFault.{VisitFault}
use Rattle.core_syntax.specs.declared.visit_fault.VisitFault.TheVariants as Faults
use Rattle.model.specs.claims.Refusals.{of_rule, past_limit, unreachable}
use Rattle.model.specs.rules.Program.{Program}
use Rattle.model.specs.rules.Typed.{TypedRule}
use Rattle.model.specs.sites.Sites.{SetRule, SiteTerm, unfold_site}
use Rattle.model.specs.visits.Demands.{Demands, demands_of, visit_rule, with_sites}
use Rattle.model.specs.sites.Closure.{Unreachability, before_closing, class_names, closing, conflicts_met, cycle, first_conflict, first_filled, has_cycle, in_site_order, is_unreachable, most_closing_steps, reported, with_constrained}
use Rattle.model.specs.sites.Limits.{RuleLimit, arguments_limit, fields_limit, outputs_limit, sites_after_rule, sites_limit}
use Rattle.model.specs.sites.Overlap.{not_reached, limit_passed}
use Rattle.model.specs.sites.RuleSets.{StandFor}
use Rattle.laws_sites.specs.RuleByRule.{GoesPast}
use Rattle.laws_sites.proofs.GivenFields.{fields_are_given_lem}
use Rattle.core_syntax.specs.ErrorViews.{error_views, limit_view}
use Rattle.core_typed.specs.RuleViews.{rule_view}
use Rattle.core_typed.specs.declared.rules.Rule.{Rule}
use Rattle.core_rule_sets.specs.Closings.{EndsFull, GoOn}
use Rattle.core_rule_sets.specs.SiteTables.{ForWantOfRoom, IsTable, table_sites}
use Rattle.core_rule_sets.specs.SiteViews.{set_rule_views}
use Rattle.core_rule_sets.specs.Verdicts.{AreVisited}
use Rattle.core_rule_sets.specs.declared.trie_again.Constraint.{Constraint}
use Rattle.core_builder.specs.AddedRules.{AddsListed, ReportsLimit, SetGoesOn, report_views, set_so_far, unreachable_each}
use Rattle.core_builder.specs.VisitedSites.{EndsAtLimit, IsSiteOf, MeetsLimit, BuilderStandsAt, built_sites, conflict_view}
use Rattle.core_builder.specs.declared.ruleset_builder.RuleSetBuilder.{RuleSetBuilder}
use Rattle.core_builder.specs.declared.term_sets.TermSet.{TermSet}
use Rattle.core_builder.proofs.GrownSites.{StayFirst}
use Rattle.core_builder.proofs.PassedRules.{goes_past_from, passes_added, passes_limit, passes_unreachable, set_with}

-- 1. reports as errors
each_reported : {X : Type 0} (pos : Pos) (f : X → Unreachability) (xs : List X) → unreachable_each xs pos ≡ report_views (map (λ why. not_reached why (position pos)) (map f xs))
each_reported pos f [] = refl
each_reported pos f (x ∷ xs) = ap (λ l. unreachable (position pos) ∷ l) (each_reported pos f xs)

-- the limit that a fault names is the one that was met
record LimitNamed (p : Program) (before : List SiteTerm) (r : TypedRule) (b : RuleSetBuilder) (errors more : List Error) (pos : Pos) : Type 0 where
  limit : RuleLimit
  meets : MeetsLimit p before r b limit
  reports : error_views more ≡ error_views errors ++ past_limit (of_rule limit) (position pos) ∷ []

module _ (p : Program) (before : List SiteTerm) (r : TypedRule) (b : RuleSetBuilder) (errors more : List Error) (pos : Pos) where
  by_limit : (l : Limit) → EndsAtLimit p before r b (Faults.Limit l) → error_views more ≡ error_views errors ++ past_limit (limit_view l) (position pos) ∷ [] → LimitNamed p before r b errors more pos
  by_limit Limits.Fields h e = record { limit = fields_limit; meets = h; reports = e }
  by_limit Limits.Outputs h e = record { limit = outputs_limit; meets = h; reports = e }
  by_limit Limits.Arguments h e = record { limit = arguments_limit; meets = h; reports = e }
  by_limit Limits.Sites h e = record { limit = sites_limit; meets = h; reports = e }
  by_limit _ h e = absurd h

  -- 2. a limit that is met in the visit, or in the closing
  pub goes_on_limited : (old new : TermSet) (fault : VisitFault) (whole : List SiteTerm) → new.builder ≡ b → new.rules ≡ old.rules → position pos ≡ r.at
      → StandFor (built_sites old.builder) whole → StayFirst whole (sites_after_rule p before r) → EndsAtLimit p before r b fault → ReportsLimit errors more fault pos → SetGoesOn p before r old new errors more
  goes_on_limited old new fault whole same rules at stand stay ends rep =
      let n = by_limit rep.limit (subst (EndsAtLimit p before r b) rep.met ends) rep.reported in
      record {
        said = limit_passed n.limit r.at ∷ [];
        goes = subst (λ rs. GoesPast p before r (set_so_far old) (set_with (set_rule_views rs.items) (built_sites new.builder)) (limit_passed n.limit r.at ∷ [])) (sym rules)
            (subst (λ x. GoesPast p before r (set_so_far old) (set_with (set_rule_views old.rules.items) (built_sites x)) (limit_passed n.limit r.at ∷ [])) (sym same)
            (passes_limit p before r (set_rule_views old.rules.items) (built_sites old.builder) whole b n.limit stand stay n.meets));
        table = subst (λ x. IsTable x.table) (sym same) n.meets.sites.table;
        reports = n.reports ∙ ap (λ a. error_views errors ++ past_limit (of_rule n.limit) a ∷ []) at;
      }

-- the closing ends at the limit on sites
pub closing_ends : (p : Program) (before : List SiteTerm) (r : TypedRule) (rules : List SetRule) (b after : RuleSetBuilder) (h : BuilderStandsAt before b (visit_rule p r).visit) (reachable : is_unreachable (demands_of p r) ≡ false)
    → (fault : VisitFault) → ForWantOfRoom (IsTable after.table) fault → EndsFull (built_sites after) (closing most_closing_steps (before_closing before (demands_of p r))) fault → EndsAtLimit p before r after fault
closing_ends p before r rules b after h reachable fault t f = grind (arith, common_steps)

-- 3. conflicts that the visit met, and what the verdict finds
abbrev others : List SiteTerm → Demands → List Unreachability
others order d =
    first_filled (first_conflict (class_names d) (in_site_order (with_constrained order d) d.constraints) (in_site_order (with_constrained order d) d.constraints))
    (if has_cycle (class_names d) d.constraints then cycle ∷ [] else [])

reported_first : (order : List SiteTerm) (d : Demands) (us : List Unreachability) → conflicts_met [] d.constraints ≡ us → reported order d ≡ first_filled us (others order d)
reported_first order d us e = ap (λ l. first_filled l (others order d)) e

module _ (p : Program) (before : List SiteTerm) (r : TypedRule) (s : TermSet) (h : BuilderStandsAt before s.builder (visit_rule p r).visit) (errors more : List Error) (pos : Pos) (at : position pos ≡ r.at) where
  -- what is reported is one error each
  goes_on_unreachable : {X : Type 0} (f : X → Unreachability) (x : X) (xs : List X) → reported (with_sites before (demands_of p r).made) (demands_of p r) ≡ map f (x ∷ xs)
      → error_views more ≡ error_views errors ++ unreachable_each (x ∷ xs) pos → SetGoesOn p before r s s errors more
  goes_on_unreachable f x xs e rep = record {
    said = map (λ why. not_reached why r.at) (map f (x ∷ xs));
    goes = passes_unreachable p before r (set_rule_views s.rules.items) s.builder h (f x) (map f xs) e;
    table = h.table;
    reports = rep ∙ ap (λ l. error_views errors ++ l) (each_reported pos f (x ∷ xs)) ∙ ap (λ a. error_views errors ++ report_views (map (λ why. not_reached why a) (map f (x ∷ xs)))) at;
  }

  pub goes_on_conflicting : (cs : List (Constraint × Constraint)) → s.builder.conflicts.items ≡ cs → (cs ≡ [] → ⊥) → error_views more ≡ error_views errors ++ unreachable_each cs pos → SetGoesOn p before r s s errors more
  goes_on_conflicting [] e some rep = absurd (some refl)
  goes_on_conflicting (c ∷ cs) e some rep = grind (arith, common_steps, goes_on_unreachable conflict_view c cs, reported_first)

  pub goes_on_refused : (u : Unreachability) → reported (with_sites before (demands_of p r).made) (demands_of p r) ≡ u ∷ [] → error_views more ≡ error_views errors ++ unreachable (position pos) ∷ [] → SetGoesOn p before r s s errors more
  goes_on_refused u e rep = goes_on_unreachable (λ w. w) u [] e rep

-- a visit that met no conflict, as the verdict takes it
pub visited_fields : (p : Program) (before : List SiteTerm) (r : TypedRule) (b : RuleSetBuilder) → BuilderStandsAt before b (visit_rule p r).visit → b.conflicts.items ≡ [] → AreVisited (built_sites b) before (demands_of p r) b.demanded
visited_fields p before r b h e = grind (arith, common_steps, fields_are_given_lem p r)

-- 4. the rule is added
module _ (p : Program) (before : List SiteTerm) (r : TypedRule) (old : TermSet) (h : BuilderStandsAt before old.builder (visit_rule p r).visit) (reachable : is_unreachable (demands_of p r) ≡ false)
    (after : RuleSetBuilder) (table : IsTable after.table) (go : GoOn (built_sites old.builder) (built_sites after) after.demanded (closing most_closing_steps (before_closing before (demands_of p r))))
    (same_iterators : after.iterators ≡ old.builder.iterators) (same_impure : after.impure ≡ old.builder.impure) where
  pub goes_on_added : (from : Rule) (value : ℕ) (mid new : TermSet) (errors : List Error) → rule_view from ≡ r → IsSiteOf old.builder (visit_rule p r).site value → mid.rules ≡ old.rules → new.builder.table ≡ after.table
      → AddsListed after (closing most_closing_steps (before_closing before (demands_of p r))) from value mid new → SetGoesOn p before r old new errors errors
  goes_on_added from value mid new errors view site rules tables l = record {
    said = [];
    goes = subst (λ t. GoesPast p before r (set_so_far old) (set_with (set_rule_views new.rules.items) (table_sites t)) []) (sym tables)
        (passes_added p before r (set_rule_views old.rules.items) old.builder h reachable after table go same_iterators same_impure from value l.rule (set_rule_views new.rules.items)
        (l.last ∙ ap (λ rs. set_rule_views rs.items ++ l.rule ∷ []) rules) view site l.listed);
    table = subst IsTable (sym tables) table;
    reports = sym (append-nil (error_views errors));
  }

-- 5. a set that goes on from one whose sites were kept
pub goes_on_from : (p : Program) (before : List SiteTerm) (r : TypedRule) (old mid new : TermSet) (errors more : List Error) → mid.rules ≡ old.rules
    → ((s : ℕ) → s < length (built_sites old.builder) → unfold_site (built_sites mid.builder) s ≡ unfold_site (built_sites old.builder) s) → length (built_sites old.builder) ≤ length (built_sites mid.builder)
    → SetGoesOn p before r mid new errors more → SetGoesOn p before r old new errors more
goes_on_from p before r old mid new errors more same kept longer g = record {
  said = g.said;
  goes = goes_past_from p before r (set_so_far old) (set_so_far mid) (set_so_far new) g.said (ap (λ rs. set_rule_views rs.items) same) kept longer g.goes;
  table = g.table;
  reports = g.reports;
}

-- what follows of a call that didn't fail
pub on_ok_then : {X E : Type 0} (P Q : Type 0) (r : Result X E) → (P → Q) → OnOk r P → OnOk r Q
on_ok_then P Q r f h = grind (arith, common_steps)

-- whether a list has anything
pub some_listed : {X : Type 0} (v : Vec X) (b : Bool) → b ≡ (vec_len v == 0) → b ≡ false → v.items ≡ [] → ⊥
some_listed v b e n none = true≢false (sym (e ∙ ap (λ k. k == 0) (v.ok.0 ∙ ap length none)) ∙ n)

pub none_listed : {X : Type 0} (v : Vec X) (b : Bool) → b ≡ (vec_len v == 0) → b ≡ true → v.items ≡ []
none_listed {X} v b e n = grind (arith, common_steps)
