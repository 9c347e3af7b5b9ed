-- Functions, and their texts, are read back.
use Rattle.std.proofs.Common.{◌≡◌, ◌∷◌, [], suc, Bool, true, false, List, length, ap, ◌∙◌, arith}
use Rattle.std.proofs.lemmas.Grind.{common_steps}
use Rattle.model_code.specs.Tokens.{closing_brace}
use Rattle.model_code.specs.Notation.{ReturnForm}
use Rattle.model_code.specs.Pieces.{CodePiece, line_end, tokens_of, put}
use Rattle.model_code.specs.Written.{no_margin, written, shown_code, has_end, end_before, function_body}
use Rattle.model_code.specs.Reading.{only_if}
use Rattle.model_code.specs.ReadsBack.{ends_block, is_function_end, up_to_end, FunctionIsRead}
use Rattle.model_code.specs.ReadTexts.{TextIsReadBack}
use Rattle.model_code.proofs.Written.{written_writable}
use Rattle.model_code.proofs.Lengths.{size_within_all}
use Rattle.model_code.proofs.Lexing.{text_has_tokens_lem}
use Rattle.model_code.proofs.ReadsBack.{reads_back_lem}

abbrev last_brace : List CodePiece
last_brace = put closing_brace (line_end ∷ [])

-- what stands where a function's code has run through ends a block, and a function
end_ends : (ended : Bool) (kind : ReturnForm) → (ends_block (tokens_of (end_before ended kind last_brace)) ≡ true) × (is_function_end kind (tokens_of (end_before ended kind last_brace)) ≡ true)
end_ends ended kind = grind (arith, common_steps)

pub function_is_read_lem : FunctionIsRead
function_is_read_lem p code w =
    let rest : List CodePiece = end_before (has_end p code) p.kind last_brace in
    let ends = end_ends (has_end p code) p.kind in
    ap (up_to_end p.kind) (reads_back_lem p (written p code) (suc (length (tokens_of (function_body p code)))) no_margin rest (size_within_all p (written p code) no_margin rest) (written_writable p code false w) ends.0)
    ∙ ap (λ b. only_if b (shown_code p code)) ends.1

pub text_is_read_back_lem : TextIsReadBack
text_is_read_back_lem names p code whole w = grind (arith, common_steps, text_has_tokens_lem, function_is_read_lem)
