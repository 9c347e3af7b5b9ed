-- The words and marks of a text as Rust has them, without white space and comments. Letters, digits and `_` that touch are one word,
-- also behind `r#` or a `'`; what is in quotes is one too; `==`, `!=`, `>=`, `=>`, `..` and `::` are one mark, where the longer
-- mark is taken; and any other character is a mark. Rust's further marks of two and three characters aren't written.
use Rattle.std.specs.Prelude.{◌≡◌, ◌≢◌, ◌&&◌, ◌||◌, ◌++◌, ◌==◌, ◌∷◌, [], ℕ, ℤ, Bool, true, false, not, Option, List, All, codes, decimal}
use Rattle.std.specs.Char.{is_ascii_alphanumeric}
use Rattle.model.specs.lists.Syntax.{Position}
use Rattle.model_code.specs.Code.{Block}
use Rattle.model_code.specs.Tokens.{Word, unreachable_word, Owner, variable_name, parameter_name, part_name, label_name}
use Rattle.model_code.specs.Notation.{Notation}
use Rattle.model_code.specs.Pieces.{CodePiece, token, log_line}
use Rattle.model_code.specs.Written.{function_body}
use Rattle.model_code.specs.Spelling.{Names, word_text, token_text, spelled}

abbrev pub is_letter : ℕ → Bool
is_letter c = is_ascii_alphanumeric c || c == 95

abbrev pub is_white : ℕ → Bool
is_white c = c == 32 || c == 10

-- `=`, `!`, `>`, `.`, `:` and what makes one mark with each
abbrev pub opens_mark : ℕ → Bool
opens_mark c = c == 61 || c == 33 || c == 62 || c == 46 || c == 58

abbrev pub joins : ℕ → ℕ → Bool
joins c d = (d == 61 && (c == 61 || c == 33 || c == 62)) || (d == 62 && c == 61) || (d == 46 && c == 46) || (d == 58 && c == 58)

-- `r#` begins a word too
abbrev pub is_just_r : List ℕ → Bool
is_just_r (c ∷ []) = c == 114
is_just_r w = false

abbrev pub is_raw : List ℕ → ℕ → Bool
is_raw w c = c == 35 && is_just_r w

-- what is begun, with what there is of it
pub data State : Type 0 where
  between : State
  in_word : (w : List ℕ) → State
  behind_mark : (c : ℕ) → State
  behind_slash : State
  in_comment : State
  in_quotes : (q : List ℕ) → State
  behind_backslash : (q : List ℕ) → State

-- what goes on behind a character, by the state that it leaves
abbrev pub Going : Type 0
Going = State → List (List ℕ)

-- a character where nothing is begun
abbrev pub open_or_mark : Bool → ℕ → Going → List (List ℕ)
open_or_mark true c go = go (behind_mark c)
open_or_mark false c go = (c ∷ []) ∷ go between

abbrev pub quotes_or_other : Bool → ℕ → Going → List (List ℕ)
quotes_or_other true c go = go (in_quotes (c ∷ []))
quotes_or_other false c go = open_or_mark (opens_mark c) c go

abbrev pub slash_or_other : Bool → ℕ → Going → List (List ℕ)
slash_or_other true c go = go behind_slash
slash_or_other false c go = quotes_or_other (c == 34) c go

abbrev pub white_or_other : Bool → ℕ → Going → List (List ℕ)
white_or_other true c go = go between
white_or_other false c go = slash_or_other (c == 47) c go

abbrev pub letter_or_other : Bool → ℕ → Going → List (List ℕ)
letter_or_other true c go = go (in_word (c ∷ []))
letter_or_other false c go = white_or_other (is_white c) c go

-- a `'` begins a word
abbrev pub begun : ℕ → Going → List (List ℕ)
begun c go = letter_or_other (is_letter c || c == 39) c go

abbrev pub word_goes_on : Bool → List ℕ → ℕ → Going → List (List ℕ)
word_goes_on true w c go = go (in_word (w ++ (c ∷ [])))
word_goes_on false w c go = w ∷ begun c go

abbrev pub mark_goes_on : Bool → (c d : ℕ) → Going → List (List ℕ)
mark_goes_on true c d go = (c ∷ (d ∷ [])) ∷ go between
mark_goes_on false c d go = (c ∷ []) ∷ begun d go

abbrev pub comment_begins : Bool → ℕ → Going → List (List ℕ)
comment_begins true c go = go in_comment
comment_begins false c go = (47 ∷ []) ∷ begun c go

abbrev pub comment_ends : Bool → Going → List (List ℕ)
comment_ends true go = go between
comment_ends false go = go in_comment

abbrev pub quotes_end : Bool → List ℕ → Going → List (List ℕ)
quotes_end true q go = q ∷ go between
quotes_end false q go = go (in_quotes q)

abbrev pub escapes : Bool → Bool → List ℕ → Going → List (List ℕ)
escapes true ends q go = go (behind_backslash q)
escapes false ends q go = quotes_end ends q go

abbrev pub next_state : State → ℕ → Going → List (List ℕ)
next_state between c go = begun c go
next_state (in_word w) c go = word_goes_on (is_letter c || is_raw w c) w c go
next_state (behind_mark c) d go = mark_goes_on (joins c d) c d go
next_state behind_slash c go = comment_begins (c == 47) c go
next_state in_comment c go = comment_ends (c == 10) go
next_state (in_quotes q) c go = escapes (c == 92) (c == 34) (q ++ (c ∷ [])) go
next_state (behind_backslash q) c go = go (in_quotes (q ++ (c ∷ [])))

abbrev pub at_end : State → List (List ℕ)
at_end between = []
at_end (in_word w) = w ∷ []
at_end (behind_mark c) = (c ∷ []) ∷ []
at_end behind_slash = (47 ∷ []) ∷ []
at_end in_comment = []
at_end (in_quotes q) = q ∷ []
at_end (behind_backslash q) = q ∷ []

abbrev pub lexed_from : List ℕ → State → List (List ℕ)
lexed_from [] s = at_end s
lexed_from (c ∷ cs) s = next_state s c (lexed_from cs)

abbrev pub lexed : List ℕ → List (List ℕ)
lexed text = lexed_from text between

-- where no word goes on
abbrev pub ends_word_before : List ℕ → Bool
ends_word_before [] = true
ends_word_before (c ∷ cs) = not (is_letter c) && not (c == 35)

-- where neither a word goes on nor a mark but `.`
abbrev pub starts_apart : List ℕ → Bool
starts_apart [] = true
starts_apart (c ∷ cs) = (not (is_letter c) && not (c == 35)) && (not (c == 61) && not (c == 62) && not (c == 58))

-- a text that is read by itself, where such a text follows
abbrev pub IsWholeText : List ℕ → Type 0
IsWholeText text = (rest : List ℕ) → starts_apart rest ≡ true → lexed (text ++ rest) ≡ lexed text ++ lexed rest

-- and where no word goes on
abbrev pub IsWholeWord : List ℕ → Type 0
IsWholeWord text = (rest : List ℕ) → ends_word_before rest ≡ true → lexed (text ++ rest) ≡ lexed text ++ lexed rest

-- names that are read by themselves, and places that stay on their line
pub record AreWhole (names : Names) : Type 0 where
  pub owner : (o : Owner) → IsWholeText (names.owner o)
  pub field : (o : Owner) (i : ℕ) → IsWholeWord (names.field o i)
  pub function : (f : ℕ) → IsWholeText (names.function f)
  pub list : (l : Option ℕ) → IsWholeText (names.list l)
  pub constant : (name : ℕ) → IsWholeText (names.constant name)
  pub number : (z : ℤ) (ending : ℕ) → IsWholeText (names.number z ending)
  pub panic : IsWholeText names.panic
  pub log : (at : Position) → IsWholeText (names.log at)
  pub place : (at : Position) → All (λ c. c ≢ 10) (names.place at)

-- the words and marks of each token, and of what tells the log a rule: white space and comments have none
abbrev pub piece_lexed : Names → CodePiece → List (List ℕ)
piece_lexed names (token t) = lexed (token_text names t)
piece_lexed names (log_line at) = lexed (names.log at)
piece_lexed names piece = []

abbrev pub pieces_lexed : Names → List CodePiece → List (List ℕ)
pieces_lexed names [] = []
pieces_lexed names (piece ∷ rest) = piece_lexed names piece ++ pieces_lexed names rest

-- the text of a function's body has the words and marks of its tokens
abbrev pub TextHasTokens : Type 0
TextHasTokens = (names : Names) (p : Notation) (code : Block) → AreWhole names → lexed (spelled names (function_body p code)) ≡ pieces_lexed names (function_body p code)

-- the code's own tokens are a word or a mark each, but for `unreachable!` and `.1`, which are two
abbrev pub words_of_word : Word → List (List ℕ)
words_of_word unreachable_word = codes "unreachable" ∷ (codes "!" ∷ [])
words_of_word w = word_text w ∷ []

pub record OwnTokensAreWords : Type 0 where
  pub words : (w : Word) → lexed (word_text w) ≡ words_of_word w
  pub variables : (names : Names) (v : ℕ) → lexed (token_text names (variable_name v)) ≡ token_text names (variable_name v) ∷ []
  pub parameters : (names : Names) (i : ℕ) → lexed (token_text names (parameter_name i)) ≡ token_text names (parameter_name i) ∷ []
  pub parts : (names : Names) (i : ℕ) → lexed (token_text names (part_name i)) ≡ codes "." ∷ (decimal i ∷ [])
  pub labels : (names : Names) (n : ℕ) → lexed (token_text names (label_name n)) ≡ token_text names (label_name n) ∷ []
