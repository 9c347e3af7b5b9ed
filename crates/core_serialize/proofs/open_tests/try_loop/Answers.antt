use Rattle.core_serialize.specs.PlaceViews.{around_at, here_at, set_at}
use Rattle.core_serialize.proofs.BestSearches.{loop_below}
use Rattle.core_serialize.proofs.open_tests.try_loop.Goals as goal

pub returns-then-stays_below_with : goal.returns-then-stays_below_with
returns-then-stays_below_with c =
    loop_below (set_at c.args.place.now) (around_at c.args.place.now) (here_at c.args.place.now) c.args.call c.count_at-most.result c.args.counts.now c.args.search.now c.requires.counts c.count_at-most.ensures
    (c.stays_below_with.ensures c.if-stays_below_with.true) c.requires.search
