use Rattle.std.proofs.Common.{subst}
use Rattle.core_serialize.specs.NeededTests.{SearchesMore, IsPair, OfSome}
use Rattle.core_serialize.specs.PlaceViews.{around_at, here_at, set_at}
use Rattle.core_serialize.proofs.BestSearches.{pairs_below, searches_more, searches_none}
use Rattle.core_serialize.proofs.open_tests.try_pairs_of.Goals as goal
use Rattle.std.proofs.lemmas.List.{take_all}

pub loop-b-init : goal.loop-b-init
loop-b-init c = searches_none (set_at c.args.place.now) (around_at c.args.place.now) (here_at c.args.place.now) (IsPair c.args.a) c.args.search.now c.requires.search

pub loop-b-preserved : goal.loop-b-preserved
loop-b-preserved c =
    let set = set_at c.args.place.now in
    let ar = around_at c.args.place.now in
    let here = here_at c.args.place.now in
    let x = c.b-item.result in
    searches_more set ar here (IsPair c.args.a) c.args.others.now c.loop-b.b-index x x c.args.search.now c.loop-b.search c.try_pair.new.search
    c.loop-b-test.true c.b-item.is c.loop-b.invariant c.in_ok-try_pair.ensures

pub returns-then-pairs_stay_below : goal.returns-then-pairs_stay_below
returns-then-pairs_stay_below c =
    pairs_below (set_at c.args.place.now) (around_at c.args.place.now) (here_at c.args.place.now) c.args.others.now c.args.a c.loop-b.b-index c.b-item.result c.args.are_joined c.args.search.now c.loop-b.search
    c.requires.ascending c.requires.joined c.loop-b-test.true c.b-item.is c.loop-b.invariant (c.pairs_stay_below.ensures c.if-pairs_stay_below.true)

pub returns : goal.returns
returns c =
    let set = set_at c.args.place.now in
    let ar = around_at c.args.place.now in
    let here = here_at c.args.place.now in
    subst (λ l. SearchesMore set ar here (OfSome (IsPair c.args.a) l) c.args.search.now c.loop-b.search) (take_all c.loop-b.b-index c.args.others.now c.loop-b-test.false) c.loop-b.invariant
