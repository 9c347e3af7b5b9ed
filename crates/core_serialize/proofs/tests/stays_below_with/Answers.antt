use Rattle.std.proofs.Common.{◌∙◌, sym, subst, ap}
use Rattle.std.proofs.lemmas.Bool.{not-true}
use Rattle.model.specs.trees.Tests.{is_greater}
use Rattle.core_serialize.specs.PlaceViews.{around_at, here_at, set_at}
use Rattle.core_serialize.specs.TestViews.{score_view, test_view, IsNoBetter}
use Rattle.core_serialize.proofs.TestSteps.{below_bound}
use Rattle.core_serialize.proofs.tests.stays_below_with.Goals as goal

pub returns-in-Some : goal.returns-in-Some
returns-in-Some c h within =
    let set = set_at c.args.place.now in
    let ar = around_at c.args.place.now in
    let here = here_at c.args.place.now in
    let t = test_view c.args.test.now in
    let y = score_view c.in-Some.best.score in
    let most = ap (λ x. is_greater x y) (sym c.score_by.ensures) ∙ sym c.is_greater.ensures ∙ not-true c.is_greater.result h in
    subst (λ o. IsNoBetter set ar here o t) (sym c.in-Some.is) (below_bound set ar here t y c.args.most within most)
