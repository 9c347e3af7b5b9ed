use Rattle.std.proofs.Common.{◌≡◌, ◌<◌, ◌≤◌, true, ap, length, ◌∙◌, sym, subst, refl, arith}
use Rattle.laws_typing.proofs.VisitableRules.{formed_rules_can_be_visited}
use Rattle.model.specs.lists.Visitable.{is_visitable_rule}
use Rattle.model.specs.visits.Demands.{visit_rule}
use Rattle.model.specs.sites.Limits.{most_sites}
use Rattle.model.specs.sites.Sites.{unfold_site}
use Rattle.core_typed.specs.RuleViews.{rule_view}
use Rattle.core_builder.specs.VisitedSites.{EndsAtLimit, built_sites}
use Rattle.core_builder.specs.declared.term_sets.TermSet.{TermSet}
use Rattle.core_builder.proofs.GrownSites.{stays_after}
use Rattle.core_builder.proofs.RulesReported.{goes_on_from, goes_on_limited, on_ok_then}
use Rattle.core_builder.proofs.term_sets.TermSet.add_rule.Goals as goal

pub visit_rule-requires : goal.visit_rule-requires
visit_rule-requires g c =
    let m = c.requires.may.2 in
    let r = rule_view c.args.rule.now in
    record { visitable = subst (λ ts. is_visitable_rule ts r ≡ true) m.terms (formed_rules_can_be_visited c.requires.may.0 r m.formed) }

pub add_visited-requires : goal.add_visited-requires
add_visited-requires g c =
    let p = c.requires.may.0 in
    let before = c.requires.may.1 in
    let m = c.requires.may.2 in
    let v = c.in-Ok.ensures.visited p before m.terms m.formed (c.start_rule.ensures.started before m.table m.once m.stand) in
    record { visited = (before, (visit_rule p (rule_view c.args.rule.now)).visit, v.goes.stands) }

pub report_fault-requires : goal.report_fault-requires
report_fault-requires g c =
    let p = c.requires.may.0 in
    let before = c.requires.may.1 in
    let m = c.requires.may.2 in
    let ends = c.in-Err.ensures.limit p before m.terms m.formed (c.start_rule.ensures.started before m.table m.once m.stand) in
    record { goes_on = λ e. subst (EndsAtLimit p before (rule_view c.args.rule.now) c.visit_rule.new.self) e ends }

pub returns-in-Ok-clause-goes : goal.returns-in-Ok-clause-goes
returns-in-Ok-clause-goes g c p before m =
    let r = rule_view c.args.rule.now in
    let mid : TermSet = record { builder = c.visit_rule.new.self; rules = c.args.self.now.rules } in
    let v = c.in-Ok.ensures.visited p before m.terms m.formed (c.start_rule.ensures.started before m.table m.once m.stand) in
    let same = c.start_rule.ensures.kept in
    on_ok_then _ _ c.add_visited.result
    (goes_on_from p before r c.args.self.now mid c.add_visited.new.self c.args.errors.now.items c.add_visited.new.errors.items refl
    (λ s l. v.goes.kept s (subst (λ ss. s < length ss) (sym same) l) ∙ ap (λ ss. unfold_site ss s) same)
    (subst (λ ss. length ss ≤ length (built_sites c.visit_rule.new.self)) same v.goes.longer))
    (c.add_visited.ensures.goes p before (record { stands = v.goes.stands; site = v.site }))

pub returns-in-Err-clause-goes : goal.returns-in-Err-clause-goes
returns-in-Err-clause-goes g c p before m =
    let r = rule_view c.args.rule.now in
    let mid : TermSet = record { builder = c.visit_rule.new.self; rules = c.args.self.now.rules } in
    let ends = c.in-Err.ensures.limit p before m.terms m.formed (c.start_rule.ensures.started before m.table m.once m.stand) in
    let count = m.stand.count in
    let room = m.table.few in
    let few : length before ≤ most_sites = omega (arith, count, room) in
    on_ok_then _ _ c.report_fault.result
    (goes_on_limited p before r c.visit_rule.new.self c.args.errors.now.items c.report_fault.new.errors.items c.args.rule.now.pos c.args.self.now mid c.in-Err.fault before refl refl refl m.stand (stays_after p before r few) ends)
    c.report_fault.ensures.says
