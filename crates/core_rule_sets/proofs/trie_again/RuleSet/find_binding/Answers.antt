use Rattle.std.proofs.Common.{◌<◌, length, sym, ap, ◌∙◌, arith}
use Rattle.std.proofs.lemmas.Bool.{false≢true}
use Rattle.core_rule_sets.specs.SiteViews.{site_view}
use Rattle.core_rule_sets.proofs.FoundSites.{not_before_next, found_here, found_nowhere, number_fits}
use Rattle.core_rule_sets.proofs.trie_again.RuleSet.find_binding.Goals as goal

pub returns-then-is_same_binding-clause-exact : goal.returns-then-is_same_binding-clause-exact
returns-then-is_same_binding-clause-exact c distinct few =
    let same = c.deref-site-items.ensures.value in
    let long = ap length same in
    let own = c.args.self.now.bindings.ok.0 in
    let within : c.loop-number.number < 65536 = omega arith in
    found_here c.args.self.now.bindings.items (site_view c.args.binding.now) c.deref-site-items.result.now c.loop-number.number c.site-item.result same c.loop-number-test.true c.site-item.is
    (c.is_same_binding.ensures.0 c.if-is_same_binding.true) distinct c.ok.result (c.ok.ensures.value ∙ number_fits c.try_from.result c.loop-number.number c.try_from.ensures within)

pub loop-number-preserved : goal.loop-number-preserved
loop-number-preserved c =
    not_before_next c.args.self.now.bindings.items (site_view c.args.binding.now) c.deref-site-items.result.now c.loop-number.number c.site-item.result c.deref-site-items.ensures.value c.loop-number-test.true c.site-item.is
    c.loop-number.invariant (λ e. absurd (false≢true (sym c.if-is_same_binding.false ∙ c.is_same_binding.ensures.1 e)))

pub returns-clause-exact : goal.returns-clause-exact
returns-clause-exact c distinct few =
    found_nowhere c.args.self.now.bindings.items (site_view c.args.binding.now) c.loop-number.number c.deref-site-items.result.now c.deref-site-items.ensures.value c.loop-number-test.false c.loop-number.invariant
