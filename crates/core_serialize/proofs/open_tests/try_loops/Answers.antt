use Rattle.std.proofs.Common.{◌≡◌, false, rules}
use Rattle.core_serialize.specs.PlaceViews.{around_at, here_at, set_at}
use Rattle.core_serialize.proofs.BestSearches.{no_loops}
use Rattle.core_serialize.proofs.open_tests.try_loops.Goals as goal

pub returns-then-not-some_goes_over : goal.returns-then-not-some_goes_over
returns-then-not-some_goes_over c =
    let none : c.some_goes_over.result ≡ false = search rules in
    no_loops (set_at c.args.place.now) (around_at c.args.place.now) (here_at c.args.place.now) c.args.highest.now c.args.search.now (c.some_goes_over.ensures none) c.requires
