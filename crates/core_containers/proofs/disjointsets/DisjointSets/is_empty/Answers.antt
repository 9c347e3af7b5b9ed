use Rattle.std.proofs.Common.{◌==◌, hash_map_len, eq-eqb, eqb-true}
use Rattle.std.specs.Cmp.{both_ways}
use Rattle.core_containers.specs.Numbers.{sets_of}
use Rattle.core_containers.proofs.Togethers.{total, empty_map}
use Rattle.core_containers.proofs.disjointsets.DisjointSets.is_empty.Goals as goal

pub returns-clause-value : goal.returns-clause-value
returns-clause-value g c =
    let s = c.self.inside in
    let count = total c.self.invariant in
    rw (← c.self.view_is, count) (both_ways c.is_empty.result (hash_map_len s.classes == 0) (λ t. eq-eqb (hash_map_len s.classes) 0 (c.is_empty.ensures.0 t)) (λ t. c.is_empty.ensures.1 (eqb-true (hash_map_len s.classes) 0 t)))

pub returns-clause-none : goal.returns-clause-none
returns-clause-none g c =
    let s = c.self.inside in
    let count = total c.self.invariant in
    let h = empty_map g.met.T.Eq.laws s.free.items (sets_of s.members.items) s.classes.entries c.self.invariant in
    rw (returns-clause-value g c, ← c.self.view_is, count) h
