use Rattle.std.proofs.Common.{◌∙◌, ◌∷◌, ap, subst, sym}
use Rattle.std.proofs.lemmas.Result.{on_ok_weaker}
use Rattle.core_rule_sets.specs.Listings.{ascends}
use Rattle.core_serialize.specs.NeededTests.{EmittedAreJoined, SearchesMore, IsPairWith}
use Rattle.core_serialize.specs.PlaceViews.{around_at, here_at, set_at}
use Rattle.core_serialize.proofs.BestSearches.{others_ascend, others_joined, pairs_at}
use Rattle.core_serialize.proofs.open_tests.try_pairs_at.Goals as goal

pub try_pairs_of-requires-clause-ascending : goal.try_pairs_of-requires-clause-ascending
try_pairs_of-requires-clause-ascending c = ap ascends c.others_at-others.ensures ∙ others_ascend c.args.class.now c.args.at c.args.joined c.requires.ascending

pub try_pairs_of-requires-clause-joined : goal.try_pairs_of-requires-clause-joined
try_pairs_of-requires-clause-joined c t =
    let ar = around_at c.args.place.now in
    subst (λ l. EmittedAreJoined ar (c.args.a ∷ l)) (sym c.others_at-others.ensures) (others_joined ar c.args.class.now c.args.at c.args.joined c.args.a c.requires.within c.requires.site (c.requires.joined t))

pub returns : goal.returns
returns c =
    let set = set_at c.args.place.now in
    let ar = around_at c.args.place.now in
    let here = here_at c.args.place.now in
    on_ok_weaker c.try_pairs_of.result
    (λ h.
    pairs_at set ar here c.args.class.now c.args.at c.args.joined c.args.a c.args.search.now c.try_pairs_of.new.search c.requires.within c.requires.site c.requires.head
    (subst (λ l. SearchesMore set ar here (IsPairWith l c.args.a) c.args.search.now c.try_pairs_of.new.search) c.others_at-others.ensures h))
    c.try_pairs_of.ensures
