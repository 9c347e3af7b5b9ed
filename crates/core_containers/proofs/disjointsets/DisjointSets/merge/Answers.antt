use Rattle.std.proofs.Common.{◌∙◌, sym, ap, arith, Some}
use Rattle.std.specs.HashMap.{get}
use Rattle.std.proofs.lemmas.Result.{on_ok_weaker}
use Rattle.core_containers.proofs.Classes.{alike, has_some}
use Rattle.core_containers.proofs.Togethers.{total, added_none, added_some, partition}
use Rattle.core_containers.proofs.Merges.{merge_admit, merge_flip, together_merged}
use Rattle.core_containers.proofs.disjointsets.DisjointSets.merge.Goals as goal

pub add_to_set-requires-clause-some : goal.add_to_set-requires-clause-some
add_to_set-requires-clause-some g c =
    let ny = sym c.get-2.ensures.value ∙ sym c.copied-second.ensures ∙ c.in-None-Some.is-1 in
    has_some c.self.invariant c.args.y c.in-None-Some.class ny

pub add_to_set-requires-in-Some-None-clause-some : goal.add_to_set-requires-in-Some-None-clause-some
add_to_set-requires-in-Some-None-clause-some g c =
    let nx = sym c.get.ensures.value ∙ sym c.copied-first.ensures ∙ c.in-Some-None.is-0 ∙ ap Some (sym c.in-Some-None.class-is) in
    has_some c.self.invariant c.args.x c.in-Some-None.class nx

pub merge_classes-requires-clause-first : goal.merge_classes-requires-clause-first
merge_classes-requires-clause-first g c =
    let nx = sym c.get.ensures.value ∙ sym c.copied-first.ensures ∙ c.in-Some-Some.is-0 ∙ ap Some (sym c.in-Some-Some.a-is) in
    has_some c.self.invariant c.args.x c.in-Some-Some.a nx

pub merge_classes-requires-clause-second : goal.merge_classes-requires-clause-second
merge_classes-requires-clause-second g c =
    let ny = sym c.get-2.ensures.value ∙ sym c.copied-second.ensures ∙ c.in-Some-Some.is-1 in
    has_some c.self.invariant c.args.y c.in-Some-Some.b ny

pub invariant_of-self-in-None-Some : goal.invariant_of-self-in-None-Some
invariant_of-self-in-None-Some g c = c.add_to_set.ensures.fit c.self.inside.free.items c.self.invariant

pub invariant_of-self-in-Some-None : goal.invariant_of-self-in-Some-None
invariant_of-self-in-Some-None g c = c.add_to_set-in-Some-None.ensures.fit c.self.inside.free.items c.self.invariant

pub returns-in-None-None-clause-ok : goal.returns-in-None-None-clause-ok
returns-in-None-None-clause-ok g c =
    rw (← c.self.view_is) (on_ok_weaker c.merge_two_items.result (λ merged.
    together_merged g.met.T.Eq.laws c.self.invariant c.merge_two_items.ensures.fit
    c.args.x c.args.y merged) c.merge_two_items.ensures.ok)

pub returns-in-None-None-clause-len : goal.returns-in-None-None-clause-len
returns-in-None-None-clause-len g c =
    let nx = sym c.get.ensures.value ∙ sym c.copied-first.ensures ∙ c.in-None-None.is-0 in
    let ny = sym c.get-2.ensures.value ∙ sym c.copied-second.ensures ∙ c.in-None-None.is-1 in
    let before = total c.self.invariant in
    let after = total c.merge_two_items.ensures.fit in
    let first = added_none c.self.invariant c.args.x nx in
    let second = added_none c.self.invariant c.args.y ny in
    rw (← c.self.view_is) (on_ok_weaker c.merge_two_items.result (λ more. omega (arith, more, before, after, first, second)) c.merge_two_items.ensures.len)

pub returns-in-None-Some-clause-ok : goal.returns-in-None-Some-clause-ok
returns-in-None-Some-clause-ok g c =
    let e = g.T.PartialEq.eq in
    let s = c.self.inside in
    let nx = sym c.get.ensures.value ∙ sym c.copied-first.ensures ∙ c.in-None-Some.is-0 in
    let ny = sym c.get-2.ensures.value ∙ sym c.copied-second.ensures ∙ c.in-None-Some.is-1 in
    let respects = alike c.self.invariant g.met.T.Eq.laws in
    rw (← c.self.view_is) (on_ok_weaker c.add_to_set.result (λ merged.
    together_merged g.met.T.Eq.laws c.self.invariant (c.add_to_set.ensures.fit s.free.items c.self.invariant)
    c.args.x c.args.y (merge_flip e (get e s.classes) (get e c.add_to_set.new.classes) c.args.y c.args.x (merge_admit e (get e s.classes) (get e c.add_to_set.new.classes) c.args.y c.args.x g.met.T.Eq.laws respects c.in-None-Some.class ny nx merged))) c.add_to_set.ensures.ok)

pub returns-in-None-Some-clause-len : goal.returns-in-None-Some-clause-len
returns-in-None-Some-clause-len g c =
    let s = c.self.inside in
    let nx = sym c.get.ensures.value ∙ sym c.copied-first.ensures ∙ c.in-None-Some.is-0 in
    let ny = sym c.get-2.ensures.value ∙ sym c.copied-second.ensures ∙ c.in-None-Some.is-1 in
    let before = total c.self.invariant in
    let after = total (c.add_to_set.ensures.fit s.free.items c.self.invariant) in
    let first = added_none c.self.invariant c.args.x nx in
    let second = added_some c.self.invariant c.args.y c.in-None-Some.class ny in
    rw (← c.self.view_is) (on_ok_weaker c.add_to_set.result (λ more. omega (arith, more, before, after, first, second)) c.add_to_set.ensures.len)

pub returns-in-Some-None-clause-ok : goal.returns-in-Some-None-clause-ok
returns-in-Some-None-clause-ok g c =
    let e = g.T.PartialEq.eq in
    let s = c.self.inside in
    let nx = sym c.get.ensures.value ∙ sym c.copied-first.ensures ∙ c.in-Some-None.is-0 ∙ ap Some (sym c.in-Some-None.class-is) in
    let ny = sym c.get-2.ensures.value ∙ sym c.copied-second.ensures ∙ c.in-Some-None.is-1 in
    let respects = alike c.self.invariant g.met.T.Eq.laws in
    rw (← c.self.view_is) (on_ok_weaker c.add_to_set-in-Some-None.result (λ merged.
    together_merged g.met.T.Eq.laws c.self.invariant (c.add_to_set-in-Some-None.ensures.fit s.free.items c.self.invariant)
    c.args.x c.args.y (merge_admit e (get e s.classes) (get e c.add_to_set-in-Some-None.new.classes) c.args.x c.args.y g.met.T.Eq.laws respects c.in-Some-None.class nx ny merged)) c.add_to_set-in-Some-None.ensures.ok)

pub returns-in-Some-None-clause-len : goal.returns-in-Some-None-clause-len
returns-in-Some-None-clause-len g c =
    let s = c.self.inside in
    let nx = sym c.get.ensures.value ∙ sym c.copied-first.ensures ∙ c.in-Some-None.is-0 ∙ ap Some (sym c.in-Some-None.class-is) in
    let ny = sym c.get-2.ensures.value ∙ sym c.copied-second.ensures ∙ c.in-Some-None.is-1 in
    let before = total c.self.invariant in
    let after = total (c.add_to_set-in-Some-None.ensures.fit s.free.items c.self.invariant) in
    let first = added_some c.self.invariant c.args.x c.in-Some-None.class nx in
    let second = added_none c.self.invariant c.args.y ny in
    rw (← c.self.view_is) (on_ok_weaker c.add_to_set-in-Some-None.result (λ more. omega (arith, more, before, after, first, second)) c.add_to_set-in-Some-None.ensures.len)

pub returns-in-Some-Some-clause-ok : goal.returns-in-Some-Some-clause-ok
returns-in-Some-Some-clause-ok g c =
    let nx = sym c.get.ensures.value ∙ sym c.copied-first.ensures ∙ c.in-Some-Some.is-0 ∙ ap Some (sym c.in-Some-Some.a-is) in
    let ny = sym c.get-2.ensures.value ∙ sym c.copied-second.ensures ∙ c.in-Some-Some.is-1 in
    rw (← c.self.view_is) (on_ok_weaker c.merge_classes.result (λ merged.
    together_merged g.met.T.Eq.laws c.self.invariant c.merge_classes.ensures.fit
    c.args.x c.args.y (merged c.args.x c.args.y nx ny)) c.merge_classes.ensures.ok)

pub returns-in-Some-Some-clause-len : goal.returns-in-Some-Some-clause-len
returns-in-Some-Some-clause-len g c =
    let nx = sym c.get.ensures.value ∙ sym c.copied-first.ensures ∙ c.in-Some-Some.is-0 ∙ ap Some (sym c.in-Some-Some.a-is) in
    let ny = sym c.get-2.ensures.value ∙ sym c.copied-second.ensures ∙ c.in-Some-Some.is-1 in
    let before = total c.self.invariant in
    let after = total c.merge_classes.ensures.fit in
    let first = added_some c.self.invariant c.args.x c.in-Some-Some.a nx in
    let second = added_some c.self.invariant c.args.y c.in-Some-Some.b ny in
    rw (← c.self.view_is) (on_ok_weaker c.merge_classes.result (λ more. omega (arith, more, before, after, first, second)) c.merge_classes.ensures.len)

pub returns-in-None-None-clause-partition : goal.returns-in-None-None-clause-partition
returns-in-None-None-clause-partition g c = partition c.merge_two_items.ensures.fit g.met.T.Eq.laws

pub returns-in-None-Some-clause-partition : goal.returns-in-None-Some-clause-partition
returns-in-None-Some-clause-partition g c = partition (c.add_to_set.ensures.fit c.self.inside.free.items c.self.invariant) g.met.T.Eq.laws

pub returns-in-Some-None-clause-partition : goal.returns-in-Some-None-clause-partition
returns-in-Some-None-clause-partition g c = partition (c.add_to_set-in-Some-None.ensures.fit c.self.inside.free.items c.self.invariant) g.met.T.Eq.laws

pub returns-in-Some-Some-clause-partition : goal.returns-in-Some-Some-clause-partition
returns-in-Some-Some-clause-partition g c = partition c.merge_classes.ensures.fit g.met.T.Eq.laws
