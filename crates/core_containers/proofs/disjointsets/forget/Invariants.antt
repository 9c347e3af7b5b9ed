use Rattle.std.proofs.Common.{None, ◌≡◌, ◌+◌, cond, take, hash_map_len}
use Rattle.std.specs.HashMap.{get}
use Rattle.core_containers.specs.Partition.{in_set}
use Rattle.core_containers.proofs.disjointsets.forget.Given as goal

abbrev pub invariant-loop-item : goal.invariant-loop-item
invariant-loop-item g l = record {
  gone : (q : _) → get g.T.PartialEq.eq l.classes q ≡ cond (in_set g.T.PartialEq.eq (take l.item-index l.items) q) None (get g.T.PartialEq.eq l.fn.classes q);
  len : hash_map_len l.classes + l.item-index ≡ hash_map_len l.fn.classes;
}
