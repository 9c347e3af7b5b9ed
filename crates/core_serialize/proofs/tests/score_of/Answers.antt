use Rattle.std.proofs.Common.{◌∙◌}
use Rattle.core_serialize.specs.PlaceViews.{around_at, here_at, set_at}
use Rattle.core_serialize.specs.TestViews.{test_view}
use Rattle.core_serialize.proofs.TestSteps.{score_counted}
use Rattle.core_serialize.proofs.tests.score_of.Goals as goal

pub returns : goal.returns
returns c =
    c.score_by.ensures
    ∙ score_counted (set_at c.args.place.now) (around_at c.args.place.now) (here_at c.args.place.now) (test_view c.args.test.now) c.cover_count-count.result c.cover_count-count.ensures
