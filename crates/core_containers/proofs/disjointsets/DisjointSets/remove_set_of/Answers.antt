use Rattle.std.proofs.Common.{◌≡◌, ap, sym, ◌∙◌, refl, arith, Some, true, false, []}
use Rattle.std.specs.HashMap.{get}
use Rattle.std.specs.List.Sorted.{IsStrictlySortedBy}
use Rattle.std.proofs.lemmas.Bool.{false≢true}
use Rattle.std.proofs.Math.Bool.{and-true}
use Rattle.std.proofs.lemmas.Result.{on_ok_weaker, IfOk-weaker}
use Rattle.std.proofs.lemmas.List.Sorted.{IsPermutation-refl}
use Rattle.core_containers.specs.Partition.{in_set, together, filled}
use Rattle.core_containers.specs.Numbers.{sets_of, same_number}
use Rattle.core_containers.proofs.Classes.{has_some, same_symm, same_at}
use Rattle.core_containers.proofs.Togethers.{found, not_found, by_number, total, partition, partition_of}
use Rattle.core_containers.proofs.Merges.{together_removed}
use Rattle.core_containers.proofs.disjointsets.DisjointSets.remove_set_of.Goals as goal

pub remove-requires-clause-some : goal.remove-requires-clause-some
remove-requires-clause-some g c =
    let n = sym c.get.ensures.value ∙ sym c.copied.ensures ∙ c.in-Some.is in
    has_some c.self.invariant c.args.x c.in-Some.class n

pub returns-in-None-clause-members : goal.returns-in-None-clause-members
returns-in-None-clause-members g c y =
    let n = sym c.get.ensures.value ∙ sym c.copied.ensures ∙ c.in-None.is in
    rw (c.new.ensures.items, ← c.self.view_is, not_found c.self.invariant c.args.x n) refl

pub returns-in-None-clause-ascending : goal.returns-in-None-clause-ascending
unfolding IsStrictlySortedBy
returns-in-None-clause-ascending g c = rw c.new.ensures.items tt

pub returns-in-None-clause-rest : goal.returns-in-None-clause-rest
returns-in-None-clause-rest g c a b =
    let e = g.T.PartialEq.eq in
    let s = c.self.inside in
    let n = sym c.get.ensures.value ∙ sym c.copied.ensures ∙ c.in-None.is in
    let off : together e (filled (sets_of s.members.items)) c.args.x a ≡ false = ap (λ t. in_set e t a) (not_found c.self.invariant c.args.x n) in
    let off' : together e c.args.self.now c.args.x a ≡ false = rw c.self.view_is at off in
    rw off' (sym (and-true (together e c.args.self.now a b)))

pub returns-in-Some-clause-members : goal.returns-in-Some-clause-members
returns-in-Some-clause-members g c =
    let e = g.T.PartialEq.eq in
    let s = c.self.inside in
    let n = sym c.get.ensures.value ∙ sym c.copied.ensures ∙ c.in-Some.is in
    rw (← c.self.view_is) (IfOk-weaker c.remove.result _ _ (λ set h y.
    h y ∙ same_symm (get e s.classes y) (Some c.in-Some.class) ∙ ap (λ o. same_number o (get e s.classes y)) (sym n)
    ∙ sym (by_number c.self.invariant c.args.x y)) c.remove.ensures.members)

pub returns-in-Some-clause-rest : goal.returns-in-Some-clause-rest
returns-in-Some-clause-rest g c =
    let n = sym c.get.ensures.value ∙ sym c.copied.ensures ∙ c.in-Some.is in
    rw (← c.self.view_is) (on_ok_weaker c.remove.result (λ moved.
    together_removed g.met.T.Eq.laws c.self.invariant c.remove.ensures.fit
    c.args.x c.in-Some.class n moved) c.remove.ensures.ok)

pub returns-in-Some-clause-len : goal.returns-in-Some-clause-len
returns-in-Some-clause-len g c =
    let before = total c.self.invariant in
    let after = total c.remove.ensures.fit in
    rw (← c.self.view_is) (IfOk-weaker c.remove.result _ _ (λ set h. omega (arith, h, before, after)) c.remove.ensures.len)

pub returns-in-Some-clause-none : goal.returns-in-Some-clause-none
returns-in-Some-clause-none g c off =
    let e = g.T.PartialEq.eq in
    let s = c.self.inside in
    let n = sym c.get.ensures.value ∙ sym c.copied.ensures ∙ c.in-Some.is in
    let there : together e (filled (sets_of s.members.items)) c.args.x c.args.x ≡ true =
    by_number c.self.invariant c.args.x c.args.x
    ∙ ap (same_number (get e s.classes c.args.x)) n ∙ same_at (get e s.classes c.args.x) c.in-Some.class n in
    let there' : together e c.args.self.now c.args.x c.args.x ≡ true = rw c.self.view_is at there in
    absurd (false≢true (sym off ∙ there'))

pub returns-in-None-clause-partition : goal.returns-in-None-clause-partition
returns-in-None-clause-partition g c = partition_of c.self.invariant g.met.T.Eq.laws c.self.view_is

pub returns-in-Some-clause-partition : goal.returns-in-Some-clause-partition
returns-in-Some-clause-partition g c = partition c.remove.ensures.fit g.met.T.Eq.laws

pub returns-in-None-clause-answer : goal.returns-in-None-clause-answer
returns-in-None-clause-answer g c =
    let n = sym c.get.ensures.value ∙ sym c.copied.ensures ∙ c.in-None.is in
    rw (c.new.ensures.items, ← c.self.view_is, not_found c.self.invariant c.args.x n) (IsPermutation-refl [])

pub returns-in-Some-clause-answer : goal.returns-in-Some-clause-answer
returns-in-Some-clause-answer g c =
    let n = sym c.get.ensures.value ∙ sym c.copied.ensures ∙ c.in-Some.is in
    rw (← c.self.view_is, found c.self.invariant c.args.x c.in-Some.class n) c.remove.ensures.answer
