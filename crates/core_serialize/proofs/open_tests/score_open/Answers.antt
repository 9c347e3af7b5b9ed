use Rattle.std.proofs.Common.{Some, refl}
use Rattle.core_serialize.specs.declared.open_tests.BestSearch.{BestSearch}
use Rattle.core_serialize.specs.PlaceViews.{around_at, here_at, set_at}
use Rattle.core_serialize.proofs.BestSearches.{one_scored}
use Rattle.core_serialize.proofs.open_tests.score_open.Goals as goal

pub returns : goal.returns
returns c =
    let old = c.args.search.now in
    let next = c.greater_of.result in
    let new : BestSearch = record { found = old.found; scored = c.push.new.self; best = Some next } in
    one_scored (set_at c.args.place.now) (around_at c.args.place.now) (here_at c.args.place.now) c.args.test old new next refl c.in_ok-push.ensures.items refl c.greater_of.ensures.test c.greater_of.ensures.score
    c.requires.open_here c.requires.search
