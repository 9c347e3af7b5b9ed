use Rattle.std.proofs.Common.{◌∙◌, sym}
use Rattle.core_serialize.specs.PlaceViews.{around_at, here_at, set_at}
use Rattle.core_serialize.proofs.BestSearches.{one_closed}
use Rattle.core_serialize.proofs.open_tests.try_match.Goals as goal

pub returns-then-is_source : goal.returns-then-is_source
returns-then-is_source c =
    one_closed (set_at c.args.place.now) (around_at c.args.place.now) (here_at c.args.place.now) c.args.site c.args.search.now (sym c.is_source.ensures ∙ c.if-is_source.true) c.requires
