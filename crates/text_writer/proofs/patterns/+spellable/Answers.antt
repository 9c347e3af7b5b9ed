use Rattle.std.proofs.Common.{sym, ◌∙◌}
use Rattle.std.proofs.lemmas.Bool.{true≢false}
use Rattle.core_syntax.proofs.PatternViews.{row_patterns-hidden}
use Rattle.text_writer.proofs.Tests.{last_of_two, last_of_three, more_than, no_more_than}
use Rattle.text_writer.proofs.patterns.+spellable.Goals.{pattern_is_spellable-then-room-gt0-2, pattern_is_spellable-else-room-gt0-2}
use Rattle.text_writer.proofs.patterns.+spellable.Goals as goal

pub pattern_is_spellable-returns-then-is_pattern_head : goal.pattern_is_spellable-returns-then-is_pattern_head
pattern_is_spellable-returns-then-is_pattern_head t c =
    elim c.if-room-gt0-2.branch [
      | pattern_is_spellable-then-room-gt0-2 w ↦
          rw (c.in-Term.is, row_patterns-hidden c.in-Term.args, ← c.deref-then-is_pattern_head.ensures.value)
          (last_of_three _ _ _ _ (more_than 0 c.args.room w.if-room-gt0-2.true)
          (sym w.is_pattern_head.ensures ∙ sym w.value-is ∙ c.if-is_pattern_head.true) c.patterns_are_spellable.ensures)
      | pattern_is_spellable-else-room-gt0-2 w ↦ absurd (true≢false (sym c.if-is_pattern_head.true ∙ w.value-is ∙ no_more_than 0 c.args.room w.if-room-gt0-2.false))
    ]

pub pattern_is_spellable-returns-then-room-gt0-3 : goal.pattern_is_spellable-returns-then-room-gt0-3
pattern_is_spellable-returns-then-room-gt0-3 t c =
    rw (c.in-And.is, row_patterns-hidden c.in-And.subpats, ← c.deref-then-room-gt0-3.ensures.value)
    (last_of_two _ _ _ (more_than 0 c.args.room c.if-room-gt0-3.true) c.patterns_are_spellable-then-room-gt0-3.ensures)
