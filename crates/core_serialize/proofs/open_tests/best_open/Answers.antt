use Rattle.std.proofs.Common.{◌≡◌, ◌∙◌, ℕ, Option, ap, take, slice_get}
use Rattle.std.specs.List.{filter}
use Rattle.core_serialize.specs.Bars.{reaches}
use Rattle.core_serialize.specs.PlaceViews.{around_at, here_at, set_at}
use Rattle.core_serialize.proofs.Descents.{reaching_first}
use Rattle.core_serialize.proofs.BestSearches.{best_found, nothing_searched}
use Rattle.core_serialize.proofs.open_tests.best_open.Goals as goal

pub try_all_wanted-requires : goal.try_all_wanted-requires
try_all_wanted-requires c =
    nothing_searched (set_at c.args.place.now) (around_at c.args.place.now) (here_at c.args.place.now) c.new-search.result c.new-search.ensures.found c.new-search.ensures.scored c.new-search.ensures.best

pub returns : goal.returns
returns c =
    let set = set_at c.args.place.now in
    let ar = around_at c.args.place.now in
    let here = here_at c.args.place.now in
    let n = c.reach_count-count.result in
    let top = take n here in
    let some = c.try_all_wanted.new.search in
    let first = c.first.ensures.value in
    let head = λ (bar : Option ℕ). filter (reaches set.rules bar) here in
    let top_is : top ≡ head (slice_get here 0) =
    ap (λ k. take k here) c.reach_count-count.ensures.value ∙ reaching_first set.rules c.copied.result here c.args.place.now.in_order ∙ ap head (c.copied.ensures ∙ first) in
    best_found set ar here top c.new-search.result some c.try_loops.new.search top_is c.in_ok-try_all_wanted.ensures c.in_ok-try_loops.ensures
