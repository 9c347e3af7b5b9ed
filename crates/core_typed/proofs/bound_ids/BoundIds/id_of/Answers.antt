use Rattle.std.proofs.Common.{true≢false, sym, ap, ◌∙◌, is_some, Some, subst}
use Rattle.model.specs.visits.Runs.{bound_at}
use Rattle.core_typed.specs.BoundEntries.{StandsAt, by_number}
use Rattle.core_typed.proofs.BoundVars.{found_bound}
use Rattle.core_typed.proofs.BoundPlaces.{found_there, none_there}
use Rattle.core_typed.proofs.bound_ids.BoundIds.id_of.Goals as goal

pub unreachable-requires : goal.unreachable-requires
unreachable-requires g c =
    true≢false (sym c.requires ∙ sym (found_bound c.args.self.now c.args.var.0) ∙ ap (λ vs. is_some (bound_at vs c.args.var.0)) (sym c.self.view_is ∙ ap by_number (sym c.deref.ensures.value)) ∙ ap is_some (none_there c.deref.result.now c.args.var.0 c.in-Err.field-0 c.in-Err.ensures))

pub returns : goal.returns
returns g c =
    let there = found_there c.self.inside.entries.items c.args.var.0 c.in-Ok.place c.index.result.now c.self.invariant (subst (λ vs. StandsAt vs c.args.var.0 c.in-Ok.place) c.deref.ensures.value c.in-Ok.ensures) in
    ap (λ vs. bound_at vs c.args.var.0) (sym c.self.view_is) ∙ there ∙ ap (λ e. Some e.1) (sym c.index.ensures)
