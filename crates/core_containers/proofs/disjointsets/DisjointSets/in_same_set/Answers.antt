use Rattle.std.proofs.Common.{◌∙◌, refl}
use Rattle.core_containers.proofs.Togethers.{by_number, first_apart, second_apart, partition_of}
use Rattle.core_containers.proofs.disjointsets.DisjointSets.in_same_set.Goals as goal

pub returns-clause-value : goal.returns-clause-value
returns-clause-value g c =
    let first = c.copied.ensures ∙ c.get.ensures.value in
    let second = c.copied-2.ensures ∙ c.get-2.ensures.value in
    rw (← c.self.view_is, by_number c.self.invariant c.args.x c.args.y, c.is_one_class.ensures, first, second) refl

pub returns-clause-first : goal.returns-clause-first
returns-clause-first g c off =
    returns-clause-value g c ∙ first_apart (partition_of c.self.invariant g.met.T.Eq.laws c.self.view_is) c.args.x c.args.y off

pub returns-clause-second : goal.returns-clause-second
returns-clause-second g c off =
    returns-clause-value g c ∙ second_apart (partition_of c.self.invariant g.met.T.Eq.laws c.self.view_is) c.args.x c.args.y off

pub returns-clause-partition : goal.returns-clause-partition
returns-clause-partition g c = partition_of c.self.invariant g.met.T.Eq.laws c.self.view_is
