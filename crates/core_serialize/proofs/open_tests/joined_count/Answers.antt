use Rattle.std.proofs.Common.{sym, subst, take}
use Rattle.core_serialize.specs.NeededTests.{AllJoined}
use Rattle.core_serialize.specs.PlaceViews.{around_at}
use Rattle.core_serialize.proofs.BestSearches.{head_joined}
use Rattle.core_serialize.proofs.open_tests.joined_count.Goals as goal

pub returns-in-Some-clause-joined : goal.returns-in-Some-clause-joined
returns-in-Some-clause-joined c =
    subst (λ n. AllJoined (around_at c.args.place.now) (take n c.args.class.now)) (sym c.joined_from.ensures.value) (head_joined (around_at c.args.place.now) c.args.class.now c.in-Some.first.now)
