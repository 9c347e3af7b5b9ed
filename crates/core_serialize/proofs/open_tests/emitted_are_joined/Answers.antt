use Rattle.std.proofs.Common.{◌∙◌, sym}
use Rattle.core_serialize.specs.PlaceViews.{around_at}
use Rattle.core_serialize.proofs.BestSearches.{none_emitted}
use Rattle.core_serialize.proofs.open_tests.emitted_are_joined.Goals as goal

pub returns-in-None : goal.returns-in-None
returns-in-None c h = none_emitted (around_at c.args.place.now) c.args.sites.now (sym c.first_emitted.ensures ∙ c.in-None.is)
