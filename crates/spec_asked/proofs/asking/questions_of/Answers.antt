use Rattle.std.proofs.Common.{◌<◌, length, All, map, refl, sym, ap, subst, ◌∙◌}
use Rattle.std.proofs.lemmas.List.{length-map}
use Rattle.core_rule_sets.specs.SiteViews.{set_rule_views, set_rule_view, set_view, site_view, site_views}
use Rattle.laws_questions.specs.BelowLaws.{ExcludesOne}
use Rattle.spec_cases.specs.Namings.{fact_of}
use Rattle.spec_asked.specs.Asking.{AreTablesBy}
use Rattle.spec_asked.specs.Above.{AreExcluding}
use Rattle.spec_asked.specs.Demanded.{AreRuleDemands}
use Rattle.spec_asked.specs.Listed.{with_classes}
use Rattle.spec_asked.proofs.AboveSteps.{rules_of_set}
use Rattle.spec_asked.proofs.DemandsMeant.{meant}
use Rattle.spec_asked.proofs.SitesApart.{within}
use Rattle.spec_asked.proofs.asking.questions_of.Goals as goal

pub returns-clause-asked : goal.returns-clause-asked
returns-clause-asked c = λ p v w unknowns of built said names sites.
    let bindings = c.args.set.now.bindings.items in
    let rule = set_rule_view c.args.rule.now in
    let set = set_view c.args.set.now in
    let t = c.args.term.0 in
    let demanded = subst (λ l. AreRuleDemands (site_views l) rule c.in_ok-demanded.demanded) c.deref.ensures.value c.in_ok-demanded.ensures in
    let by = subst (λ l. AreTablesBy c.demands_by-demands.result c.args.program.now c.args.specs.now t l c.in_ok-demanded.demanded) c.deref-2.ensures.value c.demands_by-demands.ensures in
    let m = meant c.args.program.now c.args.specs.now t bindings (set_rule_views c.args.set.now.rules.items) rule
    c.in_ok-demanded.demanded demanded c.demands_by-demands.result by p of built v sites w unknowns in
    let asked = c.in_ok-asked_demands.ensures.asked v m unknowns names said refl in
    let these = with_classes rule demanded.classes in
    let excluded = (c.in_ok-excluded.ensures.excluded v asked.0).1 m t set these
    (record {
      same = refl;
      constraints = refl;
      prio = refl;
      sites = λ n l. sites n ∙ within (site_views bindings) built.sources n (subst (λ k. n < k) (sym (length-map bindings site_view)) l);
    })
    (rules_of_set c.args.set.now.rules.items) in
    record {
      classes = demanded.classes;
      alike = demanded.alike;
      all = asked.1;
      excluded = subst (λ fs. AreExcluding p m.specs t set these v fs.items) (sym c.in_ok-asked_demands.ensures.same) excluded;
    }
