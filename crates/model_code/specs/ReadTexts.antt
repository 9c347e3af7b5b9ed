-- Texts that are read back.
use Rattle.std.specs.Prelude.{◌≡◌, ◌++◌, [], ◌∷◌, ℕ, true, false, List, Some}
use Rattle.model_code.specs.Code.{Block}
use Rattle.model_code.specs.Tokens.{Token}
use Rattle.model_code.specs.Notation.{Notation}
use Rattle.model_code.specs.Pieces.{CodePiece, tokens_of}
use Rattle.model_code.specs.Written.{shown_code, function_body}
use Rattle.model_code.specs.Spelling.{Names, token_text, spelled}
use Rattle.model_code.specs.Lexing.{lexed, AreWhole, pieces_lexed}
use Rattle.model_code.specs.ReadsBack.{writable, read_function}

-- a text of pieces: it has the words and marks of their tokens, and no other but those of what tells the log a rule, and a reader
-- gets this code of the tokens
pub record IsReadAsCode (names : Names) (p : Notation) (text : List ℕ) (code : Block) : Type 0 where
  pub pieces : List CodePiece
  pub of_pieces : text ≡ spelled names pieces
  pub words : lexed text ≡ pieces_lexed names pieces
  pub read : read_function p (tokens_of pieces) ≡ Some code

-- the text of a function is read as what it shows of the function's code
abbrev pub TextIsReadBack : Type 0
TextIsReadBack = (names : Names) (p : Notation) (code : Block) → AreWhole names → writable p false code ≡ true → IsReadAsCode names p (spelled names (function_body p code)) (shown_code p code)

-- the words and marks of tokens
abbrev pub words_of : Names → List Token → List (List ℕ)
words_of names [] = []
words_of names (t ∷ rest) = lexed (token_text names t) ++ words_of names rest

-- where the log is told nothing, the text of a function has these and no other
abbrev pub UnloggedTextIsItsTokens : Type 0
UnloggedTextIsItsTokens =
    (names : Names) (p : Notation) (code : Block) → AreWhole names → p.is_logged ≡ false → lexed (spelled names (function_body p code)) ≡ words_of names (tokens_of (function_body p code))
