-- The code that is written: all of a body within a label that no test leaves has the body's braces alone.
use Rattle.std.specs.Prelude.{◌||◌, Bool, true, false, not, List, [], ◌∷◌, None}
use Rattle.model_code.specs.Code.{Block, no_statement, statement, Statement, match_on, if_equal, for_each_of, labelled, CodeArms, no_code_arm, code_arm}
use Rattle.model_code.specs.Tokens.{Token, closing_brace, none_word, no_match}
use Rattle.model_code.specs.Notation.{Notation, ReturnForm, gives_one, gives_option, gives_many}
use Rattle.model_code.specs.Pieces.{CodePiece, token, set_in, line_end, tokens_of, Margin, put, is_left, result_ends, is_end, block_before}
use Rattle.model_code.specs.Shown.{shown}

abbrev pub is_bare : Notation → Block → Bool
is_bare p (statement (labelled body) no_statement) = not (is_left (result_ends p) body)
is_bare p code = false

abbrev pub unwrapped : Bool → Block → Block
unwrapped true (statement (labelled body) later) = body
unwrapped _ code = code

abbrev mutual
  pub written : Notation → Block → Block
  written p no_statement = no_statement
  written p (statement s later) = statement (written_at p s) (written p later)

  pub written_at : Notation → Statement → Statement
  written_at p (match_on u arms) = match_on u (written_arms p arms)
  written_at p (if_equal a b body) = if_equal a b (unwrapped (is_bare p body) (written p body))
  written_at p (for_each_of v from body) = for_each_of v from (unwrapped (is_bare p body) (written p body))
  written_at p (labelled body) = labelled (written p body)
  written_at p s = s

  pub written_arms : Notation → CodeArms → CodeArms
  written_arms p no_code_arm = no_code_arm
  written_arms p (code_arm pattern fields body rest) = code_arm pattern fields (unwrapped (is_bare p body) (written p body)) (written_arms p rest)

-- where a function's body stands
abbrev pub no_margin : Margin
no_margin = record { depth = 1; label = None }

-- the text of a block in tokens, and what it shows
abbrev pub code_tokens : Notation → Block → List Token
code_tokens p code = tokens_of (block_before p no_margin (written p code) [])

abbrev pub shown_code : Notation → Block → Block
shown_code p code = shown p (written p code)

-- the body of a function, and what follows where it has run through
abbrev pub has_end : Notation → Block → Bool
has_end p no_statement = false
has_end p (statement s later) = is_end (result_ends p) s || has_end p later

abbrev pub function_end : ReturnForm → List CodePiece → List CodePiece
function_end gives_one rest = set_in 1 ∷ token no_match ∷ line_end ∷ rest
function_end gives_option rest = set_in 1 ∷ put none_word (line_end ∷ rest)
function_end gives_many rest = rest

abbrev pub end_before : Bool → ReturnForm → List CodePiece → List CodePiece
end_before true kind rest = rest
end_before false kind rest = function_end kind rest

-- a function from behind its first line on
abbrev pub function_body : Notation → Block → List CodePiece
function_body p code = block_before p no_margin (written p code) (end_before (has_end p code) p.kind (put closing_brace (line_end ∷ [])))
