use Rattle.std.proofs.Common.{◌≡◌, ◌<◌, ◌∙◌, not, length, get_or, [], sym, subst, arith}
use Rattle.std.specs.List.{filter}
use Rattle.std.proofs.lemmas.Option.{slice_get-get_or}
use Rattle.std.proofs.lemmas.Result.{IfOk-weaker}
use Rattle.model.specs.trees.Tests.{cover, is_covered}
use Rattle.core_rule_sets.specs.SiteViews.{set_view}
use Rattle.core_serialize.specs.Bars.{is_at_bar, IsBar}
use Rattle.core_serialize.specs.TestViews.{test_view}
use Rattle.core_serialize.proofs.BarSteps.{behind_is_bar, cover_at_bar, no_others, others_at_bar, whole_cover}
use Rattle.core_serialize.proofs.tests.parted.Goals as goal

pub returns-then-leading-here-clause-covered : goal.returns-then-leading-here-clause-covered
returns-then-leading-here-clause-covered c =
    let rules = (set_view c.args.set.now).rules in
    let t = test_view c.args.test.now in
    let here = c.args.here.now in
    let all = sym c.leading_count-leading.ensures.value ∙ c.if-leading-here.true in
    IfOk-weaker c.all_and_none.result (λ p. (p.0.items ≡ here) × (p.1.items ≡ [])) (λ p. p.0.items ≡ cover rules here t) (λ p e. e.0 ∙ sym (whole_cover rules t here all)) c.all_and_none.ensures

pub returns-then-leading-here-clause-others : goal.returns-then-leading-here-clause-others
returns-then-leading-here-clause-others c =
    let rules = (set_view c.args.set.now).rules in
    let t = test_view c.args.test.now in
    let here = c.args.here.now in
    let all = sym c.leading_count-leading.ensures.value ∙ c.if-leading-here.true in
    IfOk-weaker c.all_and_none.result (λ p. (p.0.items ≡ here) × (p.1.items ≡ [])) (λ p. p.1.items ≡ filter (λ i. not (is_covered rules here t i)) here) (λ p e. e.1 ∙ sym (no_others rules t here all)) c.all_and_none.ensures

pub returns-clause-covered : goal.returns-clause-covered
returns-clause-covered c =
    let rules = (set_view c.args.set.now).rules in
    let t = test_view c.args.test.now in
    let here = c.args.here.now in
    let leading = c.leading_count-leading.result in
    let most = c.leading_count-leading.ensures.within in
    let not_all = c.if-leading-here.false in
    let within : leading < length here = omega (arith, most, not_all) in
    let at = slice_get-get_or here leading 0 within in
    let bar = c.behind_leading-bar.result in
    let is_bar = subst (IsBar rules here t) (sym (c.behind_leading-bar.ensures ∙ at)) (behind_is_bar rules t here (get_or here leading 0) leading c.requires c.leading_count-leading.ensures.value at) in
    IfOk-weaker c.parted_at.result (λ p. p.0.items ≡ filter (is_at_bar rules t bar) here) (λ p. p.0.items ≡ cover rules here t) (λ p e. e ∙ cover_at_bar rules here t bar is_bar) c.parted_at.ensures.reaching

pub returns-clause-others : goal.returns-clause-others
returns-clause-others c =
    let rules = (set_view c.args.set.now).rules in
    let t = test_view c.args.test.now in
    let here = c.args.here.now in
    let leading = c.leading_count-leading.result in
    let most = c.leading_count-leading.ensures.within in
    let not_all = c.if-leading-here.false in
    let within : leading < length here = omega (arith, most, not_all) in
    let at = slice_get-get_or here leading 0 within in
    let bar = c.behind_leading-bar.result in
    let is_bar = subst (IsBar rules here t) (sym (c.behind_leading-bar.ensures ∙ at)) (behind_is_bar rules t here (get_or here leading 0) leading c.requires c.leading_count-leading.ensures.value at) in
    IfOk-weaker c.parted_at.result (λ p. p.1.items ≡ filter (λ i. not (is_at_bar rules t bar i)) here) (λ p. p.1.items ≡ filter (λ i. not (is_covered rules here t i)) here) (λ p e. e ∙ others_at_bar rules here t bar is_bar) c.parted_at.ensures.others
