use Rattle.std.proofs.Common.{◌≡◌, [], ◌∷◌, ◌++◌, subst, chars}
use Rattle.std.specs.Prelude.{IfOk, string_bytes}
use Rattle.text_writer.proofs.parts.char_text.Goals as goal

pub returns : goal.returns
returns c = subst (λ xs. IfOk c.with_char.result (λ made. chars (string_bytes made) ≡ xs ++ c.args.c ∷ [])) c.empty.ensures c.with_char.ensures
