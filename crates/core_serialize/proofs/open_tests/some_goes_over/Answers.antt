use Rattle.std.proofs.Common.{ap, sym, ◌∙◌}
use Rattle.std.specs.List.{list_any}
use Rattle.std.proofs.lemmas.List.{take_all}
use Rattle.model.specs.trees.Tests.{needs_at, loop_test}
use Rattle.core_rule_sets.specs.SiteViews.{set_view}
use Rattle.core_serialize.proofs.open_tests.some_goes_over.Goals as goal

pub returns : goal.returns
returns c e s =
    let rules = (set_view c.args.set.now).rules in
    ap (list_any (needs_at rules (loop_test s))) (sym (take_all c.loop-number.number-index c.args.numbers.now c.loop-number-test.false)) ∙ c.loop-number.invariant s
