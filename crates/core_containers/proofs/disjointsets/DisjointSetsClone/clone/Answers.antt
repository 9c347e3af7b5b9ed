use Rattle.std.proofs.Common.{◌≡◌, ◌∙◌, ap, sym, subst}
use Rattle.core_containers.specs.Partition.{filled, IsPartition}
use Rattle.core_containers.specs.Numbers.{sets_of}
use Rattle.core_containers.proofs.Togethers.{partition}
use Rattle.core_containers.proofs.disjointsets.DisjointSetsClone.clone.Goals as goal

pub returns-clause-partition : goal.returns-clause-partition
returns-clause-partition g c =
    let e = g.T.PartialEq.eq in
    let s = c.self.inside in
    let same : sets_of c.in_ok-members_copied.field-0.items ≡ sets_of s.members.items = c.in_ok-members_copied.ensures ∙ ap sets_of c.deref.ensures.value in
    subst (λ sets. IsPartition e (filled sets)) (sym same) (partition c.self.invariant g.met.T.Eq.laws)
