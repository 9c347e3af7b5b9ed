use Rattle.std.proofs.Common.{get_or, refl, subst}
use Rattle.std.proofs.lemmas.List.{take_all}
use Rattle.core_serialize.specs.NeededTests.{SearchesMore, IsLoopOf, OfSome}
use Rattle.core_serialize.specs.PlaceViews.{around_at, here_at, set_at}
use Rattle.core_serialize.proofs.BestSearches.{searches_more, searches_none}
use Rattle.core_serialize.proofs.open_tests.try_all_loops.Goals as goal

pub loop-number-init : goal.loop-number-init
loop-number-init c = searches_none (set_at c.args.place.now) (around_at c.args.place.now) (here_at c.args.place.now) (IsLoopOf (set_at c.args.place.now).rules) c.args.search.now c.requires.search

pub loop-number-preserved : goal.loop-number-preserved
loop-number-preserved c =
    let set = set_at c.args.place.now in
    let ar = around_at c.args.place.now in
    let here = here_at c.args.place.now in
    let i = c.loop-number.number-index in
    let x = get_or c.args.highest.now i 0 in
    searches_more set ar here (IsLoopOf set.rules) c.args.highest.now i x 0 c.args.search.now c.loop-number.search c.try_loops_of.new.search
    c.loop-number-test.true refl c.loop-number.invariant c.in_ok-try_loops_of.ensures

pub returns : goal.returns
returns c =
    let set = set_at c.args.place.now in
    let ar = around_at c.args.place.now in
    let here = here_at c.args.place.now in
    subst (λ l. SearchesMore set ar here (OfSome (IsLoopOf set.rules) l) c.args.search.now c.loop-number.search) (take_all c.loop-number.number-index c.args.highest.now c.loop-number-test.false) c.loop-number.invariant
