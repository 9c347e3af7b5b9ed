-- The pieces of a text that stay when it is laid out, and where the author set them.
use Rattle.std.specs.Prelude.{ℕ, ◌+◌, List, [], ◌∷◌, ◌++◌, if◌then◌else◌, ◌==◌}
use Rattle.text_reader.specs.Pieces.{Piece, space, line, block, left, right, bind, name, sign, endless, alone}

-- a character, and what is left of the rest of a comment
abbrev pub before_kept : ℕ → List ℕ → List ℕ
before_kept c [] = if c == 13 then [] else c ∷ []
before_kept c (d ∷ ds) = c ∷ d ∷ ds

-- a comment without the carriage returns at its end
abbrev pub without_returns : List ℕ → List ℕ
without_returns [] = []
without_returns (c ∷ cs) = before_kept c (without_returns cs)

-- what of a piece is kept: a comment that ends a line loses the carriage returns at its end
abbrev pub kept : Piece → Piece
kept (space c) = space c
kept (line cs) = line (without_returns cs)
kept (block cs) = block cs
kept left = left
kept right = right
kept bind = bind
kept (name cs) = name cs
kept (sign cs) = sign cs
kept (endless cs) = endless cs
kept alone = alone

-- a piece that isn't white space, how many line breaks stand before it, and how many other characters of white space in its line
pub record Placed : Type 0 where
  pub piece : Piece
  pub breaks : ℕ
  pub spaces : ℕ

abbrev pub placed : Piece → ℕ → ℕ → Placed
placed p breaks spaces = record { piece = kept p; breaks = breaks; spaces = spaces }

-- the counts behind one more character of white space. A byte order mark counts for nothing.
abbrev pub breaks_behind : ℕ → ℕ → ℕ
breaks_behind breaks c = if c == 10 then breaks + 1 else breaks

abbrev pub spaces_behind : ℕ → ℕ → ℕ
spaces_behind spaces c = if c == 10 then 0 else if c == 65279 then spaces else spaces + 1

-- the pieces that stay, where so many line breaks and spaces stand before the first of these
abbrev pub all_placed : (breaks spaces : ℕ) → List Piece → List Placed
all_placed b s [] = []
all_placed b s (space c ∷ ps) = all_placed (breaks_behind b c) (spaces_behind s c) ps
all_placed b s (line cs ∷ ps) = placed (line cs) b s ∷ all_placed 0 0 ps
all_placed b s (block cs ∷ ps) = placed (block cs) b s ∷ all_placed 0 0 ps
all_placed b s (left ∷ ps) = placed left b s ∷ all_placed 0 0 ps
all_placed b s (right ∷ ps) = placed right b s ∷ all_placed 0 0 ps
all_placed b s (bind ∷ ps) = placed bind b s ∷ all_placed 0 0 ps
all_placed b s (name cs ∷ ps) = placed (name cs) b s ∷ all_placed 0 0 ps
all_placed b s (sign cs ∷ ps) = placed (sign cs) b s ∷ all_placed 0 0 ps
all_placed b s (endless cs ∷ ps) = placed (endless cs) b s ∷ all_placed 0 0 ps
all_placed b s (alone ∷ ps) = placed alone b s ∷ all_placed 0 0 ps

-- the pieces so far that stay, and how much white space stands behind them
pub record Placing : Type 0 where
  pub breaks : ℕ
  pub spaces : ℕ
  pub done : List Placed

-- one more piece as it is kept
abbrev pub with_kept : Piece → Placing → Placing
with_kept p a = record { breaks = 0; spaces = 0; done = a.done ++ record { piece = p; breaks = a.breaks; spaces = a.spaces } ∷ [] }

-- one more piece
abbrev pub with_piece : Piece → Placing → Placing
with_piece (space c) a = record { breaks = breaks_behind a.breaks c; spaces = spaces_behind a.spaces c; done = a.done }
with_piece (line cs) a = with_kept (kept (line cs)) a
with_piece (block cs) a = with_kept (block cs) a
with_piece left a = with_kept left a
with_piece right a = with_kept right a
with_piece bind a = with_kept bind a
with_piece (name cs) a = with_kept (name cs) a
with_piece (sign cs) a = with_kept (sign cs) a
with_piece (endless cs) a = with_kept (endless cs) a
with_piece alone a = with_kept alone a

abbrev pub nothing_placed : Placing
nothing_placed = record { breaks = 0; spaces = 0; done = [] }
