use Rattle.std.proofs.Common.{◌<◌, length, ap, sym, ◌∙◌, arith}
use Rattle.core_rule_sets.specs.SiteViews.{set_view}
use Rattle.core_serialize.specs.TestViews.{test_view}
use Rattle.core_serialize.proofs.BarSteps.{covered_count, covers_most, whole_cover}
use Rattle.core_serialize.proofs.tests.cover_count.Goals as goal

pub returns-then-leading-here : goal.returns-then-leading-here
returns-then-leading-here c =
    let same = c.if-leading-here.true in
    same ∙ ap length (sym (whole_cover (set_view c.args.set.now).rules (test_view c.args.test.now) c.args.here.now (sym c.leading_count-leading.ensures.value ∙ same)))

pub overflow_add-result : goal.overflow_add-result
overflow_add-result c =
    let rules = (set_view c.args.set.now).rules in
    let t = test_view c.args.test.now in
    let here = c.args.here.now in
    let leading = c.leading_count-leading.result in
    let most = c.leading_count-leading.ensures.within in
    let not_all = c.if-leading-here.false in
    let within : leading < length here = omega (arith, most, not_all) in
    let counted = covered_count rules here t c.behind_leading-bar.result leading c.reach_count-reaching.result c.needing_count.result c.requires c.leading_count-leading.ensures.value
    within c.behind_leading-bar.ensures c.reach_count-reaching.ensures.value c.needing_count.ensures in
    let covers = covers_most rules here t in
    omega (arith, counted, covers)

pub returns : goal.returns
returns c =
    let rules = (set_view c.args.set.now).rules in
    let here = c.args.here.now in
    let leading = c.leading_count-leading.result in
    let most = c.leading_count-leading.ensures.within in
    let not_all = c.if-leading-here.false in
    let within : leading < length here = omega (arith, most, not_all) in
    covered_count rules here (test_view c.args.test.now) c.behind_leading-bar.result leading c.reach_count-reaching.result c.needing_count.result c.requires c.leading_count-leading.ensures.value
    within c.behind_leading-bar.ensures c.reach_count-reaching.ensures.value c.needing_count.ensures
