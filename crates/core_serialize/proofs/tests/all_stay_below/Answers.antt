use Rattle.std.proofs.Common.{◌∙◌, sym, subst, ap}
use Rattle.std.proofs.lemmas.Bool.{not-true}
use Rattle.model.specs.trees.Tests.{is_greater}
use Rattle.core_serialize.specs.PlaceViews.{around_at, here_at, set_at}
use Rattle.core_serialize.specs.TestViews.{score_view, IsNoBetter}
use Rattle.core_serialize.proofs.TestSteps.{from_below}
use Rattle.core_serialize.proofs.tests.all_stay_below.Goals as goal

pub returns-in-Some : goal.returns-in-Some
returns-in-Some c h u from =
    let set = set_at c.args.place.now in
    let ar = around_at c.args.place.now in
    let here = here_at c.args.place.now in
    let y = score_view c.in-Some.best.score in
    let most = ap (λ x. is_greater x y) (sym c.most_from.ensures) ∙ sym c.is_greater.ensures ∙ not-true c.is_greater.result h in
    subst (λ o. IsNoBetter set ar here o u) (sym c.in-Some.is) (from_below set ar here c.args.form c.args.site c.args.place.now.emitted_end c.args.place.now.ends y u from most)
