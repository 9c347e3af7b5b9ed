use Rattle.std.proofs.Common.{◌≡◌, ◌<◌, ◌&&◌, length, sym, ap, ◌∙◌, arith, lt-ltb}
use Rattle.std.proofs.lemmas.List.{length-map}
use Rattle.std.proofs.lemmas.Result.{IfOk-weaker}
use Rattle.model.specs.trees.Places.{available}
use Rattle.model.specs.trees.Tests as Tests
use Rattle.core_rule_sets.specs.SiteViews.{site_view}
use Rattle.core_serialize.specs.PlaceViews.{around_at, set_at}
use Rattle.core_serialize.proofs.open_tests.is_at_hand.Goals as goal

pub returns-clause-at_hand : goal.returns-clause-at_hand
returns-clause-at_hand c =
    let set = set_at c.args.place.now in
    let ar = around_at c.args.place.now in
    let s = c.args.site in
    let many = length-map c.args.place.now.indexed.set.now.bindings.items site_view in
    let l : s < length set.sites = omega (arith, many) in
    IfOk-weaker c.comes_to_hand.result (λ b. b ≡ available set.sites ar s) (λ b. b ≡ Tests.is_at_hand set ar s)
    (λ b e. e ∙ sym (ap (λ b. b && available set.sites ar s) (lt-ltb s (length set.sites) l))) c.comes_to_hand.ensures.at_hand
