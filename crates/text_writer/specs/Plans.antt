-- The plan of a text: the pieces that stay, each with the gap that it gets.
use Rattle.std.specs.Prelude.{ℕ, Bool, false, List, [], ◌∷◌, if◌then◌else◌, ◌==◌, min, max}
use Rattle.text_reader.specs.Pieces.{Piece, space, line, block, left, right, bind, name, sign, endless, alone, spelling, begins_with}
use Rattle.text_writer.specs.declared.gaps.Gap.{Gap}
use Rattle.text_writer.specs.declared.gaps.Gap.TheVariants.{Spaces, Breaks}
use Rattle.text_writer.specs.declared.gaps.Last.{Last}
use Rattle.text_writer.specs.declared.gaps.Last.TheVariants as L
use Rattle.text_writer.specs.Placing.{Placed, all_placed}

-- a piece, and the white space that it gets before it
pub record Planned : Type 0 where
  pub gap : Gap
  pub piece : Piece

-- what a piece is for the one behind it
abbrev pub last_of : Piece → Last
last_of (space c) = L.Other
last_of (line cs) = L.Line
last_of (block cs) = L.Other
last_of left = L.Open
last_of right = L.Other
last_of bind = L.Bind
last_of (name cs) = L.Other
last_of (sign cs) = L.Other
last_of (endless cs) = L.Other
last_of alone = L.Other

-- how many spaces a piece gets in a line that goes on, where `usual` is what stands between most pieces: so many as before, but
-- at least one, if it is a comment that ends the line, and none before `)`
abbrev pub spaces_in_line : (usual before : ℕ) → Piece → ℕ
spaces_in_line usual before (space c) = usual
spaces_in_line usual before (line cs) = max before 1
spaces_in_line usual before (block cs) = usual
spaces_in_line usual before left = usual
spaces_in_line usual before right = 0
spaces_in_line usual before bind = usual
spaces_in_line usual before (name cs) = usual
spaces_in_line usual before (sign cs) = usual
spaces_in_line usual before (endless cs) = usual
spaces_in_line usual before alone = usual

-- line breaks stay, but at most one empty line
abbrev pub broken : ℕ → ℕ → Gap
broken breaks spaces = if breaks == 0 then Spaces spaces else Breaks (min breaks 2)

-- the gap before a piece, by what stands before that. Nothing stands before the first piece, unless it begins like a byte order
-- mark, which it would be there. A comment that ends its line is followed by a break. No space stands behind `(`.
abbrev pub gap_before : Last → Placed → Gap
gap_before L.Nothing p = Spaces (if begins_with 65279 (spelling p.piece) then 1 else 0)
gap_before L.Mark p = Spaces 0
gap_before L.Line p = Breaks (max (min p.breaks 2) 1)
gap_before L.Open p = broken p.breaks (spaces_in_line 0 p.spaces p.piece)
gap_before L.Bind p = broken p.breaks (spaces_in_line 1 p.spaces p.piece)
gap_before L.Other p = broken p.breaks (spaces_in_line 1 p.spaces p.piece)

abbrev pub planned : Last → List Placed → List Planned
planned last [] = []
planned last (p ∷ ps) = record { gap = gap_before last p; piece = p.piece } ∷ planned (last_of p.piece) ps

-- whether pieces begin with a byte order mark
abbrev pub is_marked : List Piece → Bool
is_marked [] = false
is_marked (p ∷ ps) = begins_with 65279 (spelling p)

-- what stands before the first piece
abbrev pub first_last : Bool → Last
first_last marked = if marked then L.Mark else L.Nothing

abbrev pub plan : List Piece → List Planned
plan ps = planned (first_last (is_marked ps)) (all_placed 0 0 ps)
