use Rattle.std.proofs.Common.{◌∙◌, ◌&&◌, ap, not, sym, subst}
use Rattle.std.specs.List.{list_any}
use Rattle.std.proofs.lemmas.Bool.{not-true}
use Rattle.model.specs.trees.Places.{is_in, joins}
use Rattle.core_serialize.specs.NeededTests.{EmittedAreJoined}
use Rattle.core_serialize.specs.PlaceViews.{around_at}
use Rattle.core_serialize.proofs.BestSearches.{joined_behind, joined_rest}
use Rattle.core_serialize.proofs.open_tests.class_is_joined.Goals as goal

pub returns-in-Some : goal.returns-in-Some
returns-in-Some c h =
    let ar = around_at c.args.place.now in
    let one = c.in-Some.first in
    joined_behind ar c.args.class.now c.args.joined c.requires.head one (sym c.first_emitted.ensures ∙ c.in-Some.is)
    (sym (c.some_apart.ensures ∙ ap (list_any (λ s. is_in s ar.emitted && not (joins ar.joined one s))) c.behind-rest.ensures) ∙ not-true c.some_apart.result h)

pub returns-in-None : goal.returns-in-None
returns-in-None c h =
    joined_rest (around_at c.args.place.now) c.args.class.now c.args.joined c.requires.head (sym c.first_emitted.ensures ∙ c.in-None.is)
    (subst (EmittedAreJoined (around_at c.args.place.now)) c.behind-rest.ensures (c.emitted_are_joined.ensures h))
