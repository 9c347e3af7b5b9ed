use Rattle.std.proofs.Common.{sym, ◌∙◌}
use Rattle.std.proofs.lemmas.Bool.{true≢false}
use Rattle.core_syntax.proofs.ExprViews.{row_exprs-hidden, row_lets-hidden}
use Rattle.text_writer.proofs.Tests.{last_of_three, first_fails, second_fails, more_than, no_more_than}
use Rattle.text_writer.proofs.expressions.+spellable.Goals.{expr_is_spellable-then-room-gt0, expr_is_spellable-else-room-gt0, expr_is_spellable-then-room-gt1, expr_is_spellable-else-room-gt1}
use Rattle.text_writer.proofs.expressions.+spellable.Goals as goal

pub expr_is_spellable-returns-then-is_expr_head : goal.expr_is_spellable-returns-then-is_expr_head
expr_is_spellable-returns-then-is_expr_head t c =
    elim c.if-room-gt0.branch [
      | expr_is_spellable-then-room-gt0 w ↦
          rw (c.in-Term.is, row_exprs-hidden c.in-Term.args, ← c.deref.ensures.value)
          (last_of_three _ _ _ _ (more_than 0 c.args.room w.if-room-gt0.true)
          (sym w.is_expr_head.ensures ∙ sym w.value-is ∙ c.if-is_expr_head.true) c.exprs_are_spellable.ensures)
      | expr_is_spellable-else-room-gt0 w ↦ absurd (true≢false (sym c.if-is_expr_head.true ∙ w.value-is ∙ no_more_than 0 c.args.room w.if-room-gt0.false))
    ]

pub expr_is_spellable-returns-then-lets_are_spellable : goal.expr_is_spellable-returns-then-lets_are_spellable
expr_is_spellable-returns-then-lets_are_spellable t c =
    elim c.if-room-gt1.branch [
      | expr_is_spellable-then-room-gt1 w ↦
          rw (c.in-Let.is, row_lets-hidden c.in-Let.defs, ← w.deref-then-room-gt1.ensures.value, ← c.deref-then-lets_are_spellable.ensures)
          (last_of_three _ _ _ _ (more_than 1 c.args.room w.if-room-gt1.true)
          (sym w.lets_are_spellable.ensures ∙ sym w.value-is ∙ c.if-lets_are_spellable.true) c.expr_is_spellable.ensures)
      | expr_is_spellable-else-room-gt1 w ↦ absurd (true≢false (sym c.if-lets_are_spellable.true ∙ w.value-is ∙ no_more_than 1 c.args.room w.if-room-gt1.false))
    ]

pub expr_is_spellable-returns-else-lets_are_spellable : goal.expr_is_spellable-returns-else-lets_are_spellable
expr_is_spellable-returns-else-lets_are_spellable t c =
    elim c.if-room-gt1.branch [
      | expr_is_spellable-then-room-gt1 w ↦
          rw (c.in-Let.is, row_lets-hidden c.in-Let.defs, ← w.deref-then-room-gt1.ensures.value)
          (second_fails _ _ _ _ (sym w.lets_are_spellable.ensures ∙ sym w.value-is ∙ c.if-lets_are_spellable.false) c.if-lets_are_spellable.false)
      | expr_is_spellable-else-room-gt1 w ↦
          rw (c.in-Let.is) (first_fails _ _ _ _ (no_more_than 1 c.args.room w.if-room-gt1.false) c.if-lets_are_spellable.false)
    ]
