-- What the reader holds, without where it lies in memory.
use Rattle.std.specs.Prelude.{◌≡◌, List, map, Result, Ok, Err, string_bytes, ⊤}
use Rattle.core_syntax.specs.SyntaxViews.{position, name_view}
use Rattle.text_reader.specs.declared.errors.Problem.{Problem}
use Rattle.text_reader.specs.declared.errors.Problem.TheVariants as P
use Rattle.text_reader.specs.declared.errors.ReadFault.{ReadFault}
use Rattle.text_reader.specs.declared.errors.ReadFault.TheVariants.{Memory, Text}
use Rattle.text_reader.specs.declared.tokens.Token.{Token}
use Rattle.text_reader.specs.declared.tokens.Token.TheVariants as T
use Rattle.text_reader.specs.declared.tokens.LexerState.{LexerState}
use Rattle.text_reader.specs.declared.tokens.LexerState.TheVariants as S
use Rattle.text_reader.specs.Lexemes.{Lexeme, begin_list, end_list, word, dash, binder, number, constant, Complaint, expected, unclosed, unknown, Wrong}
use Rattle.text_reader.specs.Lexing.{Mode, between, in_line, opened, in_block, signed, in_name, in_constant}

abbrev pub token_view : Token → Lexeme
token_view (T.Open p) = begin_list (position p)
token_view (T.Close p) = end_list (position p)
token_view (T.Word i) = word (name_view i)
token_view (T.Dash i) = dash (name_view i)
token_view (T.Binder i) = binder (name_view i)
token_view (T.Number z p) = number z (position p)
token_view (T.Constant i p) = constant (name_view i) (position p)

abbrev pub token_views : List Token → List Lexeme
token_views ts = map token_view ts

abbrev pub mode_view : LexerState → Mode
mode_view S.Between = between
mode_view S.Line = in_line
mode_view (S.Opened p) = opened (position p)
mode_view (S.Block p depth last) = in_block (position p) depth last
mode_view (S.Sign p) = signed (position p)
mode_view (S.Word i) = in_name (name_view i)
mode_view (S.Constant i p) = in_constant (name_view i) (position p)

-- what an error says
abbrev pub complaint : Problem → Complaint
complaint (P.Expected m) = expected m
complaint (P.Unclosed begin) = unclosed (position begin)
complaint (P.UnknownDefinition w) = unknown (string_bytes w)

-- what a function returned is what reading gives, unless memory ran out
abbrev pub Fails : {Y : Type 0} → ReadFault → Result Y Wrong → Type 0
Fails (Memory e) read = ⊤
Fails (Text e) read = read ≡ Err (complaint e.problem, position e.pos)

abbrev pub Gives : {X Y : Type 0} → (X → Y) → Result X ReadFault → Result Y Wrong → Type 0
Gives view (Ok x) read = read ≡ Ok (view x)
Gives view (Err e) read = Fails e read
