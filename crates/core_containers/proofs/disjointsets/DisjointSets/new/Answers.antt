use Rattle.std.proofs.Common.{rules, refl, hash_map_len}
use Rattle.std.specs.HashMap.{get}
use Rattle.core_containers.specs.Partition.{filled}
use Rattle.core_containers.proofs.Classes.{no_sets}
use Rattle.core_containers.proofs.disjointsets.DisjointSets.new.Goals as goal

pub invariant_of-result : goal.invariant_of-result
invariant_of-result g c =
    rw c.new-2.ensures.items (no_sets g.T.PartialEq.eq (get g.T.PartialEq.eq c.new.result) (hash_map_len c.new.result) _ (λ x. search rules) (search rules) (search rules))

pub returns : goal.returns
unfolding filled
returns g c = rw c.new-2.ensures.items refl
