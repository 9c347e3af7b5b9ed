use Rattle.std.proofs.Common.{◌≡◌, subst}
use Rattle.std.specs.Prelude.{IfOk}
use Rattle.text_writer.proofs.Turns.{last_indent}
use Rattle.text_writer.proofs.lists.Lists.indent.Goals as goal

pub returns-in-Some : goal.returns-in-Some
returns-in-Some c = subst (λ n. IfOk c.indent.result (λ column. column ≡ n)) (last_indent c.args.indentation _ _ _ _ c.deref.ensures.value c.in-Some.ensures.value) c.indent.ensures
