use Rattle.core_serialize.specs.PlaceViews.{here_at, set_at}
use Rattle.core_serialize.specs.TestViews.{test_view}
use Rattle.core_serialize.proofs.TestSteps.{cover_within}
use Rattle.core_serialize.proofs.tests.stays_below.Goals as goal

pub returns : goal.returns
returns c h = c.stays_below_with.ensures h (cover_within (set_at c.args.place.now) (here_at c.args.place.now) (test_view c.args.test.now))
