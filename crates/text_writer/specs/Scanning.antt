-- How the pieces of a text are found, one character at a time, whatever is made of them.
use Rattle.std.specs.Prelude.{ℕ, ◌+◌, ◌-◌, ◌&&◌, nat_le, List, [], ◌∷◌, ◌++◌, if◌then◌else◌, ◌==◌}
use Rattle.std.specs.Char.{is_whitespace}
use Rattle.text_reader.specs.Pieces.{Piece, space, line, block, left, right, bind, name, sign, endless, alone, is_in_word}

-- what the last characters were the beginning of, with those of them that the piece will have
pub data ScanMode : Type 0 where
  start : ScanMode
  between : ScanMode
  opened : ScanMode
  in_name : List ℕ → ScanMode
  in_sign : List ℕ → ScanMode
  in_line : List ℕ → ScanMode
  -- how many comments are open, and the last character
  in_block : List ℕ → (depth last : ℕ) → ScanMode
  in_endless : List ℕ → ScanMode

-- the piece that the sign of a constant and these characters are
abbrev pub sign_piece : List ℕ → Piece
sign_piece [] = alone
sign_piece (c ∷ cs) = sign (c ∷ cs)

-- between pieces, with what is made so far
abbrev pub resting : {A : Type 0} → A → ScanMode × A
resting a = (between, a)

module _ {A : Type 0} (add : Piece → A → A) where
  -- a character between pieces
  unfoldable pub begun : A → ℕ → ScanMode × A
  begun a c =
      if c == 40 then (opened, a)
      else if c == 59 then (in_line [], a)
      else if c == 41 then (between, add right a)
      else if c == 64 then (between, add bind a)
      else if c == 36 then (in_sign [], a)
      else if is_whitespace c then (between, add (space c) a)
      else (in_name (c ∷ []), a)

  -- a character of a block comment, which it is part of already
  unfoldable pub in_comment : List ℕ → (depth last : ℕ) → A → ℕ → ScanMode × A
  in_comment cs depth last a c =
      if last == 40 && c == 59 then (if nat_le 1000 depth then (in_endless cs, a) else (in_block cs (depth + 1) 32, a))
      else if last == 59 && c == 41 then (if nat_le depth 1 then (between, add (block cs) a) else (in_block cs (depth - 1) 32, a))
      else (in_block cs depth c, a)

  -- what ends here
  abbrev pub finished : ScanMode → A → A
  finished start a = a
  finished between a = a
  finished opened a = add left a
  finished (in_name cs) a = add (name cs) a
  finished (in_sign cs) a = add (sign_piece cs) a
  finished (in_line cs) a = add (line cs) a
  finished (in_block cs depth last) a = add (endless cs) a
  finished (in_endless cs) a = add (endless cs) a

  -- one more character
  abbrev pub step : ScanMode → A → ℕ → ScanMode × A
  step start a c = if c == 65279 then (between, add (space c) a) else begun a c
  step between a c = begun a c
  step opened a c = if c == 59 then (in_block [] 1 32, a) else begun (add left a) c
  step (in_name cs) a c = if is_in_word c then (in_name (cs ++ c ∷ []), a) else begun (add (name cs) a) c
  step (in_sign cs) a c = if is_in_word c then (in_sign (cs ++ c ∷ []), a) else begun (add (sign_piece cs) a) c
  step (in_line cs) a c = if c == 10 then begun (add (line cs) a) c else (in_line (cs ++ c ∷ []), a)
  step (in_block cs depth last) a c = in_comment (cs ++ c ∷ []) depth last a c
  step (in_endless cs) a c = (in_endless (cs ++ c ∷ []), a)

  -- what is made of a text from here on
  unfoldable pub run : ScanMode × A → List ℕ → A
  run m [] = finished m.0 m.1
  run m (c ∷ cs) = run (step m.0 m.1 c) cs

  -- what is made of pieces
  abbrev pub folded : A → List Piece → A
  folded a [] = a
  folded a (p ∷ ps) = folded (add p a) ps
