use Rattle.std.proofs.Common.{subst}
use Rattle.core_serialize.specs.NeededTests.{SearchesMore, IsMatchAsked, OfSome}
use Rattle.core_serialize.specs.PlaceViews.{around_at, here_at, set_at}
use Rattle.core_serialize.proofs.BestSearches.{matches_below, searches_more, searches_none}
use Rattle.core_serialize.proofs.open_tests.try_matches_of.Goals as goal
use Rattle.std.proofs.lemmas.List.{take_all}

pub loop-asked-init : goal.loop-asked-init
loop-asked-init c = searches_none (set_at c.args.place.now) (around_at c.args.place.now) (here_at c.args.place.now) IsMatchAsked c.args.search.now c.requires.search

pub loop-asked-preserved : goal.loop-asked-preserved
loop-asked-preserved c =
    let set = set_at c.args.place.now in
    let ar = around_at c.args.place.now in
    let here = here_at c.args.place.now in
    let x = c.asked-item.result in
    searches_more set ar here IsMatchAsked c.args.all_asked.now c.loop-asked.asked-index x x c.args.search.now c.loop-asked.search c.try_match.new.search
    c.loop-asked-test.true c.asked-item.is c.loop-asked.invariant c.in_ok-try_match.ensures

pub returns-then-all_stay_below : goal.returns-then-all_stay_below
returns-then-all_stay_below c =
    matches_below (set_at c.args.place.now) (around_at c.args.place.now) (here_at c.args.place.now) c.args.all_asked.now c.loop-asked.asked-index c.asked-item.result c.args.search.now c.loop-asked.search
    c.requires.ascending c.loop-asked-test.true c.asked-item.is c.loop-asked.invariant (c.all_stay_below.ensures c.if-all_stay_below.true)

pub returns : goal.returns
returns c =
    let set = set_at c.args.place.now in
    let ar = around_at c.args.place.now in
    let here = here_at c.args.place.now in
    subst (λ l. SearchesMore set ar here (OfSome IsMatchAsked l) c.args.search.now c.loop-asked.search) (take_all c.loop-asked.asked-index c.args.all_asked.now c.loop-asked-test.false) c.loop-asked.invariant
