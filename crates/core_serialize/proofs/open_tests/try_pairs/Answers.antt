use Rattle.std.proofs.Common.{arith, subst}
use Rattle.std.proofs.lemmas.List.{take_all}
use Rattle.core_serialize.specs.NeededTests.{AllJoined}
use Rattle.core_serialize.specs.PlaceViews.{around_at, here_at, set_at}
use Rattle.core_serialize.proofs.BestSearches.{pairs_closed}
use Rattle.core_serialize.proofs.open_tests.try_pairs.Goals as goal

pub returns-then-joined-class : goal.returns-then-joined-class
returns-then-joined-class c =
    let ar = around_at c.args.place.now in
    pairs_closed (set_at c.args.place.now) ar (here_at c.args.place.now) c.args.class.now c.args.search.now (subst (AllJoined ar) (take_all c.joined_count-joined.result c.args.class.now (let same = c.if-joined-class.true in omega (arith, same))) c.joined_count-joined.ensures.joined) c.requires.search
