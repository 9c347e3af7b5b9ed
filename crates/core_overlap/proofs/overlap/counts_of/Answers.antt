use Rattle.std.proofs.Common.{◌∙◌, rules}
use Rattle.std.specs.Map.Iter.{deref_pair}
use Rattle.std.proofs.lemmas.Map.Iter.{btree_map_turn}
use Rattle.core_overlap.proofs.MapTurns.{places_total, none_counted, one_counted, all_counted}
use Rattle.core_overlap.proofs.overlap.counts_of.Goals as goal

pub loop-place-init : goal.loop-place-init
loop-place-init c = none_counted c.args.others.now c.new-counts.result c.into_iter-place-iterator.result c.new-counts.ensures.empty (search rules)

pub loop-place-preserved : goal.loop-place-preserved
loop-place-preserved c =
    let turn = btree_map_turn deref_pair c.loop-place.yielded c.into_iter-place-iterator.result c.loop-place.place-iterator c.next.new.self c.next.result (c.in-Some.place, c.in-Some.all) c.loop-place.yielded_by c.in-Some.is c.next.ensures.steps places_total c.args.others.now (search rules) (search rules) in
    one_counted c.args.others.now c.loop-place.counts c.insert.new.self c.loop-place.place-iterator c.next.new.self c.in-Some.place.now c.in-Some.all.now c.len.result
    c.in-Some.ensures.steps turn.1 (c.len.ensures ∙ c.in-Some.all.now.ok.0) c.in_ok-insert.ensures.updates c.loop-place.invariant

pub returns : goal.returns
returns c = all_counted c.args.others.now c.loop-place.counts c.loop-place.place-iterator c.in-None.ensures.steps.0 c.loop-place.invariant
