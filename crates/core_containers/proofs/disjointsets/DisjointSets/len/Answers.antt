use Rattle.std.proofs.Common.{sym, ◌∙◌}
use Rattle.std.specs.HashMap.{get, keys}
use Rattle.std.proofs.lemmas.List.{length-map}
use Rattle.std.proofs.lemmas.Map.Made.{is_some-lookup}
use Rattle.core_containers.proofs.Classes.{same_self}
use Rattle.core_containers.proofs.Togethers.{total, by_number, partition_of}
use Rattle.core_containers.proofs.disjointsets.DisjointSets.len.Goals as goal

pub returns-clause-value : goal.returns-clause-value
returns-clause-value g c =
    let s = c.self.inside in
    rw (← c.self.view_is) (c.len.ensures.len ∙ sym (total c.self.invariant))

pub returns-clause-count : goal.returns-clause-count
returns-clause-count g c =
    let s = c.self.inside in
    let e = g.T.PartialEq.eq in (
      keys s.classes,
      c.len.ensures.unique,
      λ y. rw (← c.self.view_is, by_number c.self.invariant y y, same_self (get e s.classes y)) (sym (is_some-lookup (e y) s.classes.entries)),
      length-map s.classes.entries (λ p. p.0) ∙ sym c.len.ensures.len,
    )

pub returns-clause-partition : goal.returns-clause-partition
returns-clause-partition g c = partition_of c.self.invariant g.met.T.Eq.laws c.self.view_is
