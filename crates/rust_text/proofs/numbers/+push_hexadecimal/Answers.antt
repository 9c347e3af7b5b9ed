use Rattle.std.proofs.Common.{[], ◌∷◌, ◌++◌, ◌/◌, ◌%◌, sym, ap, ◌∙◌, arith}
use Rattle.std.specs.Prelude.{string_bytes, false}
use Rattle.std.specs.Fmt.{digits, digit_glyph}
use Rattle.std.proofs.lemmas.Fmt.{hex_one_digit}
use Rattle.std.proofs.lemmas.List.{append_assoc}
use Rattle.std.proofs.lemmas.Result.{on_ok_weaker}
use Rattle.rust_text.proofs.HexDigits.{hex_step}
use Rattle.rust_text.proofs.numbers.+push_hexadecimal.Goals as goal

pub returns-then-number-lt16 : goal.returns-then-number-lt16
returns-then-number-lt16 t c =
    on_ok_weaker c.push_digit.result (λ w. w ∙ ap (λ ds. string_bytes c.args.out.now ++ ds) (sym (hex_one_digit false c.args.number (omega arith)))) c.push_digit.ensures

pub returns : goal.returns
returns t c =
    let n = c.args.number in
    on_ok_weaker c.push_digit-2.result (λ w. w ∙ ap (λ o. o ++ digit_glyph false (n % 16) ∷ []) c.in_ok-push_hexadecimal.ensures
    ∙ append_assoc (string_bytes c.args.out.now) (digits 16 false (n / 16)) (digit_glyph false (n % 16) ∷ [])
    ∙ ap (λ ds. string_bytes c.args.out.now ++ ds) (sym (hex_step n (omega arith) (omega arith)))) c.push_digit-2.ensures
