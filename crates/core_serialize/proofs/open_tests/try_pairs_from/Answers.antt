use Rattle.std.proofs.Common.{subst}
use Rattle.core_serialize.specs.NeededTests.{SearchesMore, IsPairWith, OfSome}
use Rattle.core_serialize.specs.PlaceViews.{around_at, here_at, set_at}
use Rattle.core_serialize.proofs.BestSearches.{pairs_behind, searches_more, searches_none}
use Rattle.core_serialize.proofs.open_tests.try_pairs_from.Goals as goal
use Rattle.std.proofs.lemmas.List.{take_all}

pub loop-at-init : goal.loop-at-init
loop-at-init c = searches_none (set_at c.args.place.now) (around_at c.args.place.now) (here_at c.args.place.now) (IsPairWith c.args.class.now) c.args.search.now c.requires.search

pub try_pairs_at-requires : goal.try_pairs_at-requires
try_pairs_at-requires c = record { search = c.loop-at.invariant.now; within = c.loop-at-test.true; site = c.index-class-at.is; ascending = c.requires.ascending; head = c.requires.head; joined = c.requires.joined }

pub loop-at-preserved : goal.loop-at-preserved
loop-at-preserved c =
    let set = set_at c.args.place.now in
    let ar = around_at c.args.place.now in
    let here = here_at c.args.place.now in
    let x = c.index-class-at.result in
    searches_more set ar here (IsPairWith c.args.class.now) c.args.class.now c.loop-at.at x x c.args.search.now c.loop-at.search c.try_pairs_at.new.search
    c.loop-at-test.true c.index-class-at.is c.loop-at.invariant c.in_ok-try_pairs_at.ensures

pub returns-then-all_stay_below : goal.returns-then-all_stay_below
returns-then-all_stay_below c =
    pairs_behind (set_at c.args.place.now) (around_at c.args.place.now) (here_at c.args.place.now) c.args.class.now c.loop-at.at c.index-class-at.result c.args.search.now c.loop-at.search
    c.requires.ascending c.loop-at-test.true c.index-class-at.is c.loop-at.invariant (c.all_stay_below.ensures c.if-all_stay_below.true)

pub returns : goal.returns
returns c =
    let set = set_at c.args.place.now in
    let ar = around_at c.args.place.now in
    let here = here_at c.args.place.now in
    subst (λ l. SearchesMore set ar here (OfSome (IsPairWith c.args.class.now) l) c.args.search.now c.loop-at.search) (take_all c.loop-at.at c.args.class.now c.loop-at-test.false) c.loop-at.invariant
