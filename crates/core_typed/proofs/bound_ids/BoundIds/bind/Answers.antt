use Rattle.std.proofs.Common.{inl, refl, sym, ap, ◌∙◌, subst}
use Rattle.std.specs.List.Sorted.{IsStrictlySortedBy}
use Rattle.std.specs.Ordering.{nat_cmp}
use Rattle.model.specs.visits.Runs.{bound_vars, with_bound}
use Rattle.core_typed.specs.BoundEntries.{FitsAt, StandsAt, by_number}
use Rattle.core_typed.proofs.BoundPlaces.{ascends_with, bound_between, bound_there}
use Rattle.core_typed.proofs.bound_ids.BoundIds.bind.Goals as goal

pub invariant_of-self : goal.invariant_of-self
invariant_of-self g c =
    let vs = c.self.inside.entries.items in
    let made = bound_there vs c.args.var c.args.id c.in-Ok.place c.self.invariant (subst (λ l. StandsAt l c.args.var.0 c.in-Ok.place) c.deref.ensures.value c.in-Ok.ensures) in
    subst (λ l. IsStrictlySortedBy nat_cmp (bound_vars l)) (sym made) (ascends_with (by_number vs) c.args.var.0 c.args.id c.self.invariant)

pub invariant_of-self-in-Continue-1 : goal.invariant_of-self-in-Continue-1
invariant_of-self-in-Continue-1 g c =
    let vs = c.self.inside.entries.items in
    let made = bound_between vs c.args.var c.args.id c.in-Err.place (subst (λ l. FitsAt l c.args.var.0 c.in-Err.place) c.deref.ensures.value c.in-Err.ensures) in
    subst (λ l. IsStrictlySortedBy nat_cmp (bound_vars l)) (sym (ap by_number c.in_ok-put_entry-in-Err.ensures.items ∙ made)) (ascends_with (by_number vs) c.args.var.0 c.args.id c.self.invariant)

pub returns-in-Ok : goal.returns-in-Ok
returns-in-Ok g c =
    let vs = c.self.inside.entries.items in
    let made = bound_there vs c.args.var c.args.id c.in-Ok.place c.self.invariant (subst (λ l. StandsAt l c.args.var.0 c.in-Ok.place) c.deref.ensures.value c.in-Ok.ensures) in
    inl (refl, made ∙ ap (λ l. with_bound l c.args.var.0 c.args.id) c.self.view_is)

pub returns-in_ok-put_entry-in-Err : goal.returns-in_ok-put_entry-in-Err
returns-in_ok-put_entry-in-Err g c =
    let vs = c.self.inside.entries.items in
    let made = bound_between vs c.args.var c.args.id c.in-Err.place (subst (λ l. FitsAt l c.args.var.0 c.in-Err.place) c.deref.ensures.value c.in-Err.ensures) in
    inl (refl, ap by_number c.in_ok-put_entry-in-Err.ensures.items ∙ made ∙ ap (λ l. with_bound l c.args.var.0 c.args.id) c.self.view_is)
