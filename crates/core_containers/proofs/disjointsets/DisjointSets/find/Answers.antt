use Rattle.std.proofs.Common.{◌<◌, length, Some, refl, sym, ap, ◌∙◌, arith}
use Rattle.std.proofs.lemmas.List.{length-map}
use Rattle.std.proofs.lemmas.Option.{slice_get-get_or}
use Rattle.core_containers.proofs.Classes.{has_some, at_view}
use Rattle.core_containers.proofs.Puts.{within_filled}
use Rattle.core_containers.proofs.Togethers.{found, not_found, own_none, own_member, another, one_name, partition_of}
use Rattle.core_containers.specs.Numbers.{sets_of}
use Rattle.core_containers.proofs.disjointsets.DisjointSets.find.Goals as goal

pub returns-in_err-class-clause-value : goal.returns-in_err-class-clause-value
returns-in_err-class-clause-value g c =
    let s = c.self.inside in
    let off = not_found c.self.invariant c.args.x (sym c.in_err-class.ensures.value) in
    rw (c.from_residual.ensures, ← c.self.view_is, off) refl

pub index-set-requires : goal.index-set-requires
index-set-requires g c =
    let s = c.self.inside in
    let some = has_some c.self.invariant c.args.x c.in_ok-class.field-0.now (sym c.in_ok-class.ensures.value) in
    omega (arith, within_filled (sets_of s.members.items) c.in_ok-class.field-0.now some, length-map s.members.items (λ v. v.items), s.members.ok.0)

pub index-requires : goal.index-requires
index-requires g c =
    let s = c.self.inside in
    let some = has_some c.self.invariant c.args.x c.in_ok-class.field-0.now (sym c.in_ok-class.ensures.value) in
    let w : c.in_ok-class.field-0.now < length s.members.items = omega (arith, within_filled (sets_of s.members.items) c.in_ok-class.field-0.now some, length-map s.members.items (λ v. v.items)) in
    let a = at_view s.members.items c.in_ok-class.field-0.now c.index-set.result.now w c.index-set.ensures in
    let m = rw a at some in
    omega (arith, m, c.index-set.result.now.ok.0)

pub returns-clause-value : goal.returns-clause-value
returns-clause-value g c =
    let s = c.self.inside in
    let some = has_some c.self.invariant c.args.x c.in_ok-class.field-0.now (sym c.in_ok-class.ensures.value) in
    let at = found c.self.invariant c.args.x c.in_ok-class.field-0.now (sym c.in_ok-class.ensures.value) in
    let w : c.in_ok-class.field-0.now < length s.members.items = omega (arith, within_filled (sets_of s.members.items) c.in_ok-class.field-0.now some, length-map s.members.items (λ v. v.items)) in
    let a = at_view s.members.items c.in_ok-class.field-0.now c.index-set.result.now w c.index-set.ensures in
    rw (← c.self.view_is, at, a) (ap Some c.index.ensures ∙ sym (slice_get-get_or c.index-set.result.now.items 0 c.index.result.now (rw a at some)))

pub returns-in_err-class-clause-none : goal.returns-in_err-class-clause-none
returns-in_err-class-clause-none g c = own_none g.T.PartialEq.eq c.args.self.now c.args.x _ (returns-in_err-class-clause-value g c)

pub returns-in_err-class-clause-member : goal.returns-in_err-class-clause-member
returns-in_err-class-clause-member g c = own_member g.T.PartialEq.eq g.met.T.Eq.laws.refl c.args.self.now c.args.x _ (returns-in_err-class-clause-value g c)

pub returns-in_err-class-clause-same : goal.returns-in_err-class-clause-same
returns-in_err-class-clause-same g c = one_name (partition_of c.self.invariant g.met.T.Eq.laws c.self.view_is) c.args.x _ (returns-in_err-class-clause-value g c)

pub returns-clause-none : goal.returns-clause-none
returns-clause-none g c = own_none g.T.PartialEq.eq c.args.self.now c.args.x _ (returns-clause-value g c)

pub returns-clause-member : goal.returns-clause-member
returns-clause-member g c = own_member g.T.PartialEq.eq g.met.T.Eq.laws.refl c.args.self.now c.args.x _ (returns-clause-value g c)

pub returns-clause-same : goal.returns-clause-same
returns-clause-same g c = one_name (partition_of c.self.invariant g.met.T.Eq.laws c.self.view_is) c.args.x _ (returns-clause-value g c)

pub returns-clause-another : goal.returns-clause-another
returns-clause-another g c some =
    let other = another c.self.invariant g.met.T.Eq.laws c.args.x c.in_ok-class.field-0.now (sym c.in_ok-class.ensures.value) in
    rw c.self.view_is at other

pub returns-in_err-class-clause-partition : goal.returns-in_err-class-clause-partition
returns-in_err-class-clause-partition g c = partition_of c.self.invariant g.met.T.Eq.laws c.self.view_is

pub returns-clause-partition : goal.returns-clause-partition
returns-clause-partition g c = partition_of c.self.invariant g.met.T.Eq.laws c.self.view_is
