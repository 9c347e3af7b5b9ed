use Rattle.std.proofs.Common.{◌∙◌}
use Rattle.std.proofs.lemmas.Map.Made.{hash_map_len-from_list}
use Rattle.core_syntax.proofs.Pairs.{last_stands}
use Rattle.core_syntax.proofs.stablemapset.StableMap.from_iter.Goals as goal

pub returns : goal.returns
returns g c =
    let made = c.loop-key.invariant in
    let pairs = c.loop-key.yielded in
    (c.into_iter-key-iterator.result, pairs, c.into_iter-key-iterator.ensures.into_iter_gives, (c.next.new.self, (c.loop-key.key-iterator, c.loop-key.yielded_by, c.in-None.ensures.steps)), (λ k. made.0 k ∙ last_stands g.met.K.Eq.laws k pairs, hash_map_len-from_list g.met.K.Eq.laws pairs c.loop-key.entries made))
