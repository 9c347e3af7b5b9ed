use Rattle.std.proofs.Common.{◌∙◌, sym, subst, take}
use Rattle.std.proofs.lemmas.List.{take_all}
use Rattle.core_serialize.specs.NeededTests.{IsLoop, IsLoopOf, OfSome}
use Rattle.core_serialize.specs.PlaceViews.{around_at, here_at, set_at}
use Rattle.core_serialize.proofs.BestSearches.{loops_of, searches_as, searches_more, searches_none}
use Rattle.core_serialize.proofs.open_tests.try_loops_of.Goals as goal

pub loop-call-init : goal.loop-call-init
loop-call-init c = searches_none (set_at c.args.place.now) (around_at c.args.place.now) (here_at c.args.place.now) IsLoop c.args.search.now c.requires.search

pub loop-call-preserved : goal.loop-call-preserved
loop-call-preserved c =
    let set = set_at c.args.place.now in
    let ar = around_at c.args.place.now in
    let here = here_at c.args.place.now in
    let x = c.call-item.result in
    searches_more set ar here IsLoop c.calls_of-call-items.result.now c.loop-call.call-index x x c.args.search.now c.loop-call.search c.try_loop.new.search
    c.loop-call-test.true c.call-item.is c.loop-call.invariant c.in_ok-try_loop.ensures

pub returns : goal.returns
returns c =
    let set = set_at c.args.place.now in
    let ar = around_at c.args.place.now in
    let here = here_at c.args.place.now in
    let items = c.calls_of-call-items.result.now in
    let k = c.loop-call.call-index in
    let i = c.args.number in
    searches_as set ar here (OfSome IsLoop (take k items)) (IsLoopOf set.rules i) c.args.search.now c.loop-call.search
    (λ u n. subst (λ l. OfSome IsLoop l u) (sym (take_all k items c.loop-call-test.false ∙ c.calls_of-call-items.ensures)) (loops_of set ar here c.args.place.now.indexed.calls.now c.args.place.now.indexed.are_calls i u n)) c.loop-call.invariant
