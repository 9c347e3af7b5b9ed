-- Which tokens, and which readings of a text, have each position inside it.
use Rattle.std.specs.Prelude.{ℕ, List, All, ⊤}
use Rattle.text_reader.specs.declared.tokens.Token.{Token}
use Rattle.text_reader.specs.declared.tokens.Token.TheVariants as T
use Rattle.text_reader.specs.declared.tokens.LexerState.{LexerState}
use Rattle.text_reader.specs.declared.tokens.LexerState.TheVariants as S
use Rattle.text_reader.specs.Forms.{IdentIsWithin, PosIsWithin}

abbrev pub TokenIsWithin : (file size : ℕ) → Token → Type 0
TokenIsWithin file size (T.Open p) = PosIsWithin file size p
TokenIsWithin file size (T.Close p) = PosIsWithin file size p
TokenIsWithin file size (T.Word i) = IdentIsWithin file size i
TokenIsWithin file size (T.Dash i) = IdentIsWithin file size i
TokenIsWithin file size (T.Binder i) = IdentIsWithin file size i
TokenIsWithin file size (T.Number z p) = PosIsWithin file size p
TokenIsWithin file size (T.Constant i p) = IdentIsWithin file size i × PosIsWithin file size p

abbrev pub TokensAreWithin : (file size : ℕ) → List Token → Type 0
TokensAreWithin file size ts = All (TokenIsWithin file size) ts

abbrev pub StateIsWithin : (file size : ℕ) → LexerState → Type 0
StateIsWithin file size S.Between = ⊤
StateIsWithin file size S.Line = ⊤
StateIsWithin file size (S.Opened p) = PosIsWithin file size p
StateIsWithin file size (S.Block p depth last) = PosIsWithin file size p
StateIsWithin file size (S.Sign p) = PosIsWithin file size p
StateIsWithin file size (S.Word i) = IdentIsWithin file size i
StateIsWithin file size (S.Constant i p) = IdentIsWithin file size i × PosIsWithin file size p
