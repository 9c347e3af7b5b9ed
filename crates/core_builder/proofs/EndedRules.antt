-- A builder that ended on the way to the end of a rule's visit lacked memory, or met the limit that is met first.
use Rattle.std.proofs.Common.{ℕ, List, Option, Some, None, sym, subst, inl, inr, arith}
use Rattle.std.proofs.lemmas.Bool.{cases_Bool, cond-true}
use Rattle.std.proofs.lemmas.List.{take_all}
use Rattle.std.proofs.lemmas.Grind.{common_steps}
use Rattle.core_syntax.specs.declared.syntax.Limit.TheVariants as Limits
use Rattle.core_syntax.specs.declared.visit_fault.VisitFault.{VisitFault}
use Rattle.core_syntax.specs.declared.visit_fault.VisitFault.TheVariants as Faults
use Rattle.model.specs.rules.Program.{Program}
use Rattle.model.specs.rules.Typed.{TypedRule}
use Rattle.model.specs.sites.Sites.{SiteTerm}
use Rattle.model.specs.visits.Demands.{demands_of, visit_rule, with_sites}
use Rattle.model.specs.sites.Closure.{before_closing, closed, is_unreachable, most_closing_steps}
use Rattle.model.specs.sites.Limits.{RuleLimit, arguments_limit, fields_limit, most_sites, outputs_limit, passed_in_visit, sites_limit, sites_reached, sites_until, sites_wanted}
use Rattle.laws_sites.proofs.Limits.{limits_are_met_lem}
use Rattle.core_rule_sets.proofs.FullTables.{closing_full}
use Rattle.core_rule_sets.specs.SiteTables.{AreFirst, IsTable}
use Rattle.core_builder.specs.VisitedSites.{EndsAtLimit, EndsVisit, MeetsCount, MeetsLimit, built_sites, with_made_until}
use Rattle.core_builder.specs.declared.ruleset_builder.RuleSetBuilder.{RuleSetBuilder}

module _ (p : Program) (before : List SiteTerm) (r : TypedRule) (b : RuleSetBuilder) where
  -- 1. for want of room
  -- the sites that are reached are too many
  pub too_many : IsTable b.table → AreFirst (built_sites b) (sites_reached p before r) → MeetsLimit p before r b sites_limit
  too_many table h = record { first = (limits_are_met_lem p before r).of_sites h.many; sites = record { table = table; stand = h.stand } }

  -- the sites that the visit makes until its end are reached, and more
  wanted_after : AreFirst (built_sites b) (with_sites before (demands_of p r).made) → AreFirst (built_sites b) (sites_wanted p before r)
  wanted_after h =
      let d = demands_of p r in
      elim (cases_Bool (is_unreachable d)) [
        | inl t ↦ subst (AreFirst (built_sites b)) (sym (cond-true (is_unreachable d) (with_sites before d.made) (closed before d).made t)) h
        | inr f ↦ grind (arith, common_steps, closing_full (built_sites b) most_closing_steps (before_closing before d) (Faults.Limit Limits.Sites) h)
      ]

  made_reached : (o : Option (RuleLimit × ℕ)) → AreFirst (built_sites b) (with_made_until before (demands_of p r).made o) → AreFirst (built_sites b) (sites_until p before r o)
  made_reached (Some passed) h = h
  made_reached None h = wanted_after h

  -- 2. by what is counted
  counted_met : (l : RuleLimit) → MeetsCount before b (visit_rule p r).visit l → MeetsLimit p before r b l
  counted_met l h = grind (arith, common_steps, limits_are_met_lem p before r, take_all most_sites (sites_reached p before r))

  -- 3. the visit
  pub visit_ends : (e : VisitFault) → EndsVisit before b (visit_rule p r).visit e → EndsAtLimit p before r b e
  visit_ends (Faults.Memory e) h = tt
  visit_ends (Faults.Limit Limits.Sites) h = too_many h.0 (made_reached (passed_in_visit p r) h.1)
  visit_ends (Faults.Limit Limits.Fields) h = counted_met fields_limit h
  visit_ends (Faults.Limit Limits.Outputs) h = counted_met outputs_limit h
  visit_ends (Faults.Limit Limits.Arguments) h = counted_met arguments_limit h
  visit_ends _ h = absurd h
