use Rattle.std.proofs.Common.{◌≡◌, sym, ap, ◌∙◌}
use Rattle.std.specs.Prelude.{Bool, true, false, ◌&&◌}
use Rattle.std.proofs.lemmas.Bool.{true≢false}
use Rattle.text_reader.specs.SpecViews.{spec_expr_view, spec_expr_views}
use Rattle.text_reader.proofs.SpecViews.{row_spec_exprs-hidden}
use Rattle.text_writer.proofs.Tests.{last_of_two}
use Rattle.text_writer.specs.SpellableTrees.{pairs_are_spellable, spec_expr_is_spellable}
use Rattle.text_writer.proofs.spellable_expressions.+spellable.Goals as goal

-- where the first of two tests fails
no_more : (a b r : Bool) → r ≡ a → r ≡ false → r ≡ (a && b)
no_more true b r e f = absurd (true≢false (sym e ∙ f))
no_more false b r e f = e

pub expr_is_spellable-returns-in-Op : goal.expr_is_spellable-returns-in-Op
expr_is_spellable-returns-in-Op t c =
    rw (c.in-Op.is, row_spec_exprs-hidden c.in-Op.args, ← c.deref.ensures.value) c.operation_is_spellable.ensures

pub expr_is_spellable-returns-then-value_is_spellable : goal.expr_is_spellable-returns-then-value_is_spellable
expr_is_spellable-returns-then-value_is_spellable t c =
    rw (c.in-Cases.is, row_spec_exprs-hidden c.in-Cases.cases, ← c.deref-then-value_is_spellable.ensures.value, ← c.deref-in-Cases.ensures)
    (last_of_two _ _ _ (sym c.value_is_spellable.ensures ∙ c.if-value_is_spellable.true)
    (c.pairs_are_spellable.ensures ∙ ap (λ n. pairs_are_spellable (spec_expr_views c.deref-then-value_is_spellable.result.now) n) c.saturating_sub.ensures))

pub expr_is_spellable-returns-then-defs_are_spellable : goal.expr_is_spellable-returns-then-defs_are_spellable
expr_is_spellable-returns-then-defs_are_spellable t c =
    rw (c.in-Let.is, row_spec_exprs-hidden c.in-Let.defs, ← c.deref-in-Let.ensures.value, ← c.deref-then-defs_are_spellable.ensures)
    (last_of_two _ _ _ (sym c.defs_are_spellable.ensures ∙ c.if-defs_are_spellable.true)
    (c.expr_is_spellable.ensures ∙ ap (λ n. spec_expr_is_spellable (spec_expr_view c.deref-then-defs_are_spellable.result.now) n) c.saturating_sub-then-defs_are_spellable.ensures))

pub expr_is_spellable-returns-else-defs_are_spellable : goal.expr_is_spellable-returns-else-defs_are_spellable
expr_is_spellable-returns-else-defs_are_spellable t c =
    rw (c.in-Let.is, row_spec_exprs-hidden c.in-Let.defs, ← c.deref-in-Let.ensures.value) (no_more _ _ _ c.defs_are_spellable.ensures c.if-defs_are_spellable.false)
