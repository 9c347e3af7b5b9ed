use Rattle.std.proofs.Common.{◌≡◌, [], ap, ◌∙◌, rules, subst, Some}
use Rattle.std.specs.BTreeMap.{get}
use Rattle.std.specs.Ordering.{nat_cmp}
use Rattle.laws_sites.specs.RuleByRule.{of_one_term, or_nothing_built}
use Rattle.model.specs.sites.Limits.{sites_after_rules}
use Rattle.core_typed.specs.RuleViews.{rule_view}
use Rattle.cranelift_isle.specs.SetsSoFar.{term_set_at}
use Rattle.cranelift_isle.proofs.BuildingLists.{goes_on_next, may_add}
use Rattle.cranelift_isle.proofs.TermsAscending.{not_at}
use Rattle.cranelift_isle.proofs.trie_again.add_rule.Goals as goal

pub add_rule-requires : goal.add_rule-requires
add_rule-requires g c =
    let p = c.requires.may.0 in
    let done = c.requires.may.1 in
    let m = c.requires.may.2 in
    let r = rule_view c.args.rule.now in
    let same : c.index-term.result ≡ r.root_term = search (rules, c.index-term.ensures) in
    let start = c.take_set-set.ensures.set ∙ ap (λ t. or_nothing_built (term_set_at c.args.sets.now t)) same in
    record { may = (p, sites_after_rules p [] (of_one_term r.root_term done), may_add (g.E.UsedTerms.term_entries c.args.termenv.now) p done r c.args.sets.now c.args.errors.now.items m c.take_set-set.result start (c.take_set-set.ensures.table m.stand.tables)) }

pub returns-clause-goes : goal.returns-clause-goes
returns-clause-goes g c p done m =
    let r = rule_view c.args.rule.now in
    let known = g.E.UsedTerms.term_entries c.args.termenv.now in
    let sets = c.args.sets.now in
    let errors = c.args.errors.now.items in
    let same : c.index-term.result ≡ r.root_term = search (rules, c.index-term.ensures) in
    let start = c.take_set-set.ensures.set ∙ ap (λ t. or_nothing_built (term_set_at sets t)) same in
    let may = may_add known p done r sets errors m c.take_set-set.result start (c.take_set-set.ensures.table m.stand.tables) in
    let goes = c.in_ok-add_rule.ensures.goes p (sites_after_rules p [] (of_one_term r.root_term done)) may in
    let u = c.in_ok-insert.ensures.updates in
    goes_on_next known p done r sets errors m c.take_set-set.result start c.take_set-set.new.sets c.insert.new.self c.add_rule.new.self c.add_rule.new.errors.items
    (λ t n. c.take_set-set.ensures.others t (λ e. n (e ∙ same))) goes
    (subst (λ t. get nat_cmp c.insert.new.self t ≡ Some c.add_rule.new.self) same u.1)
    (λ t n. u.2 t (not_at c.index-term.result t (λ e. n (e ∙ same))))
