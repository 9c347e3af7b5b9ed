use Rattle.std.proofs.Common.{◌≡◌, ◌++◌, ◌∷◌, [], if◌then◌else◌, subst}
use Rattle.model.specs.trees.Places.{is_in}
use Rattle.core_serialize.specs.PlaceViews.{around_at, set_at}
use Rattle.core_serialize.proofs.AvailableSites.{found_more}
use Rattle.core_serialize.proofs.open_tests.note.Goals as goal

pub returns : goal.returns
returns c =
    let old = c.args.found.now in
    let new = c.insert.new.self in
    let added = subst (λ n. new ≡ (if is_in n old then old else old ++ n ∷ [])) c.number_of.ensures c.in_ok-insert.ensures.added in
    found_more (set_at c.args.place.now).sites (around_at c.args.place.now) c.args.site old new added c.requires.at_hand c.requires.found
