use Rattle.std.proofs.Common.{Some, sym, ap, ◌∙◌, chars}
use Rattle.std.proofs.lemmas.Str.{IsUtf8-past_char}
use Rattle.text_documents.proofs.Walking.{units_are, units_short, units_on, units_break, units_none, units_end}
use Rattle.text_documents.proofs.lines.after_units.Goals as goal
use Rattle.text_documents.proofs.lines.after_units.Goals.{in_default-via-in-Some+then-left-gt0+else-not-is_break, in_default-via-in-Some+else-left-gt0, in_default-via-in_default}

pub returns-in_err-left-in-Some-clause-rest : goal.returns-in_err-left-in-Some-clause-rest
returns-in_err-left-in-Some-clause-rest c =
    rw c.from_residual.ensures (units_short c.loop-c.left c.in-Some.c c.len_utf16.result c.checked_sub.result _ _ _ c.loop-c.invariant.0 c.in-Some.ensures.steps.0 c.loop-c.invariant.1
    c.if-left-gt0.true (sym c.is_break.ensures ∙ c.if-not-is_break.true) (units_are c.in-Some.c c.len_utf16.result c.len_utf16.ensures.bmp c.len_utf16.ensures.surrogate_pair) c.checked_sub.ensures c.in_err-left-in-Some.was)

pub loop-c-preserved : goal.loop-c-preserved
loop-c-preserved c = (
  IsUtf8-past_char _ _ c.in-Some.c c.loop-c.invariant.0 c.in-Some.ensures.steps.0,
  units_on c.loop-c.left c.in_ok-left-in-Some.left c.in-Some.c c.len_utf16.result c.checked_sub.result _ _ _ c.loop-c.invariant.0 c.in-Some.ensures.steps.0 c.loop-c.invariant.1
      (sym c.is_break.ensures ∙ c.if-not-is_break.true) (units_are c.in-Some.c c.len_utf16.result c.len_utf16.ensures.bmp c.len_utf16.ensures.surrogate_pair) c.checked_sub.ensures c.in_ok-left-in-Some.was,
)

pub returns-in_default-clause-text : goal.returns-in_default-clause-text
returns-in_default-clause-text c = c.as_str-back.utf8

pub returns-in_default-clause-rest : goal.returns-in_default-clause-rest
returns-in_default-clause-rest c = ap (λ b. Some (chars b)) c.as_str-back.ensures ∙ elim c.in_default.branch [
  | in_default-via-in-Some+then-left-gt0+else-not-is_break w ↦ units_break c.loop-c.left w.in-Some.c _ _ _ c.loop-c.invariant.0 w.in-Some.ensures.steps.0 c.loop-c.invariant.1 (sym w.is_break.ensures ∙ w.if-not-is_break.false)
  | in_default-via-in-Some+else-left-gt0 w ↦ units_none c.loop-c.left _ _ c.loop-c.invariant.1 w.if-left-gt0.false
  | in_default-via-in_default w ↦ units_end c.loop-c.left _ _ c.loop-c.invariant.1 w.in_default.ensures.steps.0.0
]
