use Rattle.std.proofs.Common.{rules}
use Rattle.std.specs.Map.Iter.{deref_pair}
use Rattle.std.proofs.lemmas.Map.Iter.{btree_map_turn}
use Rattle.core_overlap.specs.Graphs.{IsQueued}
use Rattle.core_overlap.proofs.MapTurns.{places_total, all_left, one_queued, all_queued}
use Rattle.core_overlap.proofs.overlap.queue_of.Goals as goal

pub loop-place-init : goal.loop-place-init
loop-place-init c = all_left (IsQueued c.args.counts.now c.new-queue.result) c.args.counts.now c.into_iter-place-iterator.result (search rules)

pub loop-place-preserved : goal.loop-place-preserved
loop-place-preserved c =
    let turn = btree_map_turn deref_pair c.loop-place.yielded c.into_iter-place-iterator.result c.loop-place.place-iterator c.next.new.self c.next.result (c.in-Some.place, c.in-Some.count) c.loop-place.yielded_by c.in-Some.is c.next.ensures.steps places_total c.args.counts.now (search rules) (search rules) in
    one_queued c.args.counts.now c.loop-place.queue c.insert.new.self c.loop-place.place-iterator c.next.new.self c.in-Some.place.now c.in-Some.count.now
    c.in-Some.ensures.steps turn.1 c.in_ok-insert.ensures.updates c.loop-place.invariant

pub returns : goal.returns
returns c = all_queued c.args.counts.now c.loop-place.queue c.loop-place.place-iterator c.in-None.ensures.steps.0 c.loop-place.invariant
