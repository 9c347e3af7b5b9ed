use Rattle.std.proofs.Common.{◌≡◌, [], sym, subst, ◌∙◌, chars, string_bytes, Ok}
use Rattle.std.proofs.lemmas.Str.{IsUtf8-string_bytes}
use Rattle.text_reader.specs.FormViews.{all_view}
use Rattle.text_reader.specs.Lexing.{between, run}
use Rattle.text_reader.specs.Views.{Fails, Gives, token_views}
use Rattle.text_reader.proofs.ReadLists.{handed-on}
use Rattle.text_reader.specs.Recovering.{forms_in_part}
use Rattle.text_reader.specs.RecoveryViews.{part_view}
use Rattle.text_reader.proofs.Recovered.{no_tokens_in, forms_are}
use Rattle.text_reader.proofs.recovery.forms_in.Goals as goal

pub returns-in_err-tokens-clause-read : goal.returns-in_err-tokens-clause-read
returns-in_err-tokens-clause-read c =
    let file = c.args.at.file in let end = c.args.at.len in let chunk = c.args.chunk.now in
    let fault = c.in_err-tokens.field-0.0 in
    handed-on (λ fs. all_view fs.items) c.from_residual.result fault (forms_in_part file (part_view chunk)) c.from_residual.ensures
    (no_tokens_in file end chunk.offset (string_bytes chunk.text) (IsUtf8-string_bytes chunk.text) (c.requires.ends ∙ sym c.requires.end) fault
    (subst (λ t. Fails fault (run file end between chunk.offset (chars t) [])) c.deref.ensures c.in_err-tokens.ensures.read))

pub returns-clause-read : goal.returns-clause-read
returns-clause-read c =
    let file = c.args.at.file in let end = c.args.at.len in let chunk = c.args.chunk.now in
    let tokens = token_views c.in_ok-tokens.tokens.items in
    subst (Gives (λ fs. all_view fs.items) c.forms.result)
    (forms_are file end chunk.offset (string_bytes chunk.text) (IsUtf8-string_bytes chunk.text) (c.requires.ends ∙ sym c.requires.end) tokens
    (subst (λ t. run file end between chunk.offset (chars t) [] ≡ Ok tokens) c.deref.ensures c.in_ok-tokens.ensures.read))
    c.forms.ensures.read
