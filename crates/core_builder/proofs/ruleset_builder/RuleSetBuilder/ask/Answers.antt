use Rattle.std.proofs.Common.{◌++◌, map, ap, ◌∙◌}
use Rattle.std.proofs.lemmas.Result.{on_ok_weaker}
use Rattle.core_rule_sets.specs.SiteDemands.{constraint_held}
use Rattle.core_rule_sets.specs.SiteViews.{constraint_view}
use Rattle.core_builder.specs.VisitedSites.{conflict_view}
use Rattle.core_builder.proofs.BuilderSteps.{noted, site_asked}
use Rattle.core_builder.proofs.ruleset_builder.RuleSetBuilder.ask.Goals as goal

pub returns : goal.returns
returns c = record {
  asked = λ before v h l.
      let b = c.args.self.now in
      let k = constraint_view c.args.constraint.now in
      on_ok_weaker c.note_conflict.result
      (λ met.
      site_asked before b v h c.ask.new.self c.note_conflict.new.conflicts c.args.site c.args.constraint.now l (c.in_ok-first.ensures.due h.due) c.ask.ensures.equated c.in_ok-first.ensures.asked
      (met ∙ ap (λ us. map conflict_view b.conflicts.items ++ us) (noted before b v h c.in_ok-first.first (constraint_held b.demanded c.args.site) k c.in_ok-first.ensures.conflict)))
      c.note_conflict.ensures;
}
