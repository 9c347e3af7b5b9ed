use Rattle.std.proofs.Common.{Some, ap, ◌∙◌, chars}
use Rattle.std.proofs.lemmas.Str.{IsUtf8-past_char}
use Rattle.text_documents.specs.Walks.{after_line, without_feed}
use Rattle.text_documents.proofs.Walking.{line_feed, line_return, line_char, at_end}
use Rattle.text_documents.proofs.lines.after_line.Goals as goal

pub returns-then-c-eq10-clause-text : goal.returns-then-c-eq10-clause-text
returns-then-c-eq10-clause-text c = c.as_str.utf8

pub returns-then-c-eq10-clause-rest : goal.returns-then-c-eq10-clause-rest
returns-then-c-eq10-clause-rest c =
    ap (λ b. Some (chars b)) c.as_str.ensures ∙ line_feed _ _ c.in-Some.c _ c.loop-c.invariant.0 c.in-Some.ensures.steps.0 c.loop-c.invariant.1 c.if-c-eq10.true

pub returns-then-c-eq13-clause-text : goal.returns-then-c-eq13-clause-text
returns-then-c-eq13-clause-text c = c.without_feed.utf8

pub returns-then-c-eq13-clause-rest : goal.returns-then-c-eq13-clause-rest
returns-then-c-eq13-clause-rest c =
    ap (λ cs. Some cs) (c.without_feed.ensures ∙ ap (λ b. without_feed (chars b)) c.as_str-then-c-eq13.ensures)
    ∙ line_return _ _ c.in-Some.c _ c.loop-c.invariant.0 c.in-Some.ensures.steps.0 c.loop-c.invariant.1 c.if-c-eq13.true

pub loop-c-preserved : goal.loop-c-preserved
loop-c-preserved c = (
  IsUtf8-past_char _ _ c.in-Some.c c.loop-c.invariant.0 c.in-Some.ensures.steps.0,
  line_char _ _ c.in-Some.c _ c.loop-c.invariant.0 c.in-Some.ensures.steps.0 c.loop-c.invariant.1 c.if-c-eq10.false c.if-c-eq13.false,
)

pub returns-clause-rest : goal.returns-clause-rest
returns-clause-rest c = at_end after_line _ _ c.in_default.ensures.steps.0.0 c.loop-c.invariant.1
