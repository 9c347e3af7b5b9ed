use Rattle.std.proofs.Common.{Some, ◌≡◌, ◌&&◌, cond, is_some, take, hash_map_len}
use Rattle.std.specs.HashMap.{get}
use Rattle.core_containers.specs.Partition.{in_set}
use Rattle.core_containers.proofs.disjointsets.renumber.Given as goal

abbrev pub invariant-loop-item : goal.invariant-loop-item
invariant-loop-item g l = record {
  moved : (q : _) → get g.T.PartialEq.eq l.classes q ≡ cond (in_set g.T.PartialEq.eq (take l.item-index l.items) q && is_some (get g.T.PartialEq.eq l.fn.classes q)) (Some l.class) (get g.T.PartialEq.eq l.fn.classes q);
  len : hash_map_len l.classes ≡ hash_map_len l.fn.classes;
}
