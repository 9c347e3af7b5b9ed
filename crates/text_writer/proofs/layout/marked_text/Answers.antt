use Rattle.std.proofs.Common.{[], ◌∷◌, ◌++◌, ap, ◌∙◌}
use Rattle.text_writer.proofs.Texts.{pushed_text, empty_text}
use Rattle.text_writer.proofs.layout.marked_text.Goals as goal

pub returns-then-not-is_marked : goal.returns-then-not-is_marked
returns-then-not-is_marked c = rw c.if-not-is_marked.true (empty_text c.new-text.result c.new-text.ensures.bytes)

pub returns : goal.returns
returns c = rw c.if-not-is_marked.false (pushed_text c.new-text.result c.push.new.self 65279 c.in_ok-push.ensures.bytes ∙ ap (λ x. x ++ 65279 ∷ []) (empty_text c.new-text.result c.new-text.ensures.bytes))
