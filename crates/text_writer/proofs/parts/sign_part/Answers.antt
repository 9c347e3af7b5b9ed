use Rattle.std.proofs.Common.{sym, ◌∙◌}
use Rattle.text_writer.proofs.Texts.{sign_named, sign_alone}
use Rattle.text_writer.proofs.parts.sign_part.Goals as goal

pub returns-then-is_empty : goal.returns-then-is_empty
returns-then-is_empty c = sym (sign_alone c.args.name (sym c.is_empty.ensures ∙ c.if-is_empty.true))

pub returns-else-is_empty : goal.returns-else-is_empty
returns-else-is_empty c = sym (sign_named c.args.name (sym c.is_empty.ensures ∙ c.if-is_empty.false))
