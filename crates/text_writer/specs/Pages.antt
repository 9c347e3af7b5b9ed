-- Plans laid out: where lines begin, and the pieces with their white space.
use Rattle.std.specs.Prelude.{ℕ, ◌+◌, Bool, true, false, ◌&&◌, List, [], ◌∷◌, ◌++◌, drop, replicate, Option, Some, None, if◌then◌else◌, ◌==◌, codes}
use Rattle.std.specs.List.{flat_map}
use Rattle.std.specs.Str.{bytes_eq, encode_utf8_all}
use Rattle.text_reader.specs.PassedOver.{passes_over}
use Rattle.text_reader.specs.Pieces.{Piece, space, line, block, left, right, bind, name, sign, endless, alone, spelling}
use Rattle.text_writer.specs.declared.gaps.Gap.{Gap}
use Rattle.text_writer.specs.declared.gaps.Gap.TheVariants.{Spaces, Breaks}
use Rattle.text_writer.specs.declared.gaps.Last.{Last}
use Rattle.text_writer.specs.declared.gaps.Last.TheVariants as L
use Rattle.text_writer.specs.declared.lists.Indentation.{Indentation}
use Rattle.text_writer.specs.declared.lists.Indentation.TheVariants as I
use Rattle.text_writer.specs.declared.lists.Kind.{Kind}
use Rattle.text_writer.specs.declared.lists.Kind.TheVariants as K
use Rattle.text_writer.specs.declared.lists.Head.{Head}
use Rattle.text_writer.specs.declared.lists.OpenList.{OpenList}
use Rattle.text_writer.specs.declared.lists.LineColumn.{LineColumn}
use Rattle.text_writer.specs.Plans.{Planned, plan, is_marked, first_last, last_of}

-- ---- places

-- the place behind a character, and behind characters. A line that begins in a comment begins where that does
abbrev pub past : LineColumn → ℕ → LineColumn
past at c = if c == 10 then record { line = at.line + 1; column = 0; start = at.start } else record { line = at.line; column = at.column + 1; start = at.start }

abbrev pub behind : LineColumn → List ℕ → LineColumn
behind at [] = at
behind at (c ∷ cs) = behind (past at c) cs

-- ---- the lists that are open at a place, the innermost first

-- where a line in a list begins, by its head, the row of that and its second part: under the second part if that stands in the line of the first
-- word, else one column in; in a `let` two columns in, so that its definitions, where they begin a line, stand no deeper than
-- what follows them; in a definition that is passed over four
abbrev pub column_under : (column : ℕ) → Kind → (row : ℕ) → Option LineColumn → ℕ
column_under column K.PassedOver row second = column + 4
column_under column K.Let row second = column + 2
column_under column K.Word row None = column + 1
column_under column K.Word row (Some part) = if part.line == row then part.column else column + 1
column_under column K.Other row second = column + 1

abbrev pub begins_with_word : Kind → Bool
begins_with_word K.PassedOver = true
begins_with_word K.Let = true
begins_with_word K.Word = true
begins_with_word K.Other = false

-- by two columns: two in from where the line of the list's parenthesis begins. In a list that begins with no word one column in from
-- the parenthesis
abbrev pub column_in : Option Head → Indentation → OpenList → ℕ
column_in None i o = o.column + 1
column_in (Some head) I.UnderPart o = column_under o.column head.kind head.line o.second
column_in (Some head) I.TwoColumns o = if begins_with_word head.kind then o.start + 2 else o.column + 1

abbrev pub inner_column : Indentation → OpenList → ℕ
inner_column i o = column_in o.head i o

-- a list's end stands under its beginning; by two columns where the line of that begins
abbrev pub end_in : Option Head → Indentation → OpenList → ℕ
end_in None i o = o.column
end_in (Some head) I.UnderPart o = o.column
end_in (Some head) I.TwoColumns o = if begins_with_word head.kind then o.start else o.column

abbrev pub end_column : Indentation → OpenList → ℕ
end_column i o = end_in o.head i o

abbrev pub is_right : Piece → Bool
is_right (space c) = false
is_right (line cs) = false
is_right (block cs) = false
is_right left = false
is_right right = true
is_right bind = false
is_right (name cs) = false
is_right (sign cs) = false
is_right (endless cs) = false
is_right alone = false

-- the column where a line begins with a piece
abbrev pub list_indent : Indentation → OpenList → Piece → ℕ
list_indent i o p = if is_right p then end_column i o else inner_column i o

abbrev pub indent : Indentation → List OpenList → Piece → ℕ
indent i [] p = 0
indent i (o ∷ os) p = list_indent i o p

-- what a list's first part says of its lines
abbrev pub kind_of_word : (outermost : Bool) → List ℕ → Kind
kind_of_word outermost w = if bytes_eq w (codes "let") then K.Let else if outermost && passes_over w then K.PassedOver else K.Word

abbrev pub kind_of : (outermost : Bool) → Piece → Kind
kind_of outermost (space c) = K.Other
kind_of outermost (line cs) = K.Other
kind_of outermost (block cs) = K.Other
kind_of outermost left = K.Other
kind_of outermost right = K.Other
kind_of outermost bind = K.Other
kind_of outermost (name cs) = kind_of_word outermost (encode_utf8_all cs)
kind_of outermost (sign cs) = K.Word
kind_of outermost (endless cs) = K.Other
kind_of outermost alone = K.Word

-- a list with one more part, of which the first two are noted
abbrev pub part_noted : OpenList → Option Head → Option LineColumn → Kind → LineColumn → OpenList
part_noted o None second kind at = record o { head = Some (record { kind = kind; line = at.line }) }
part_noted o (Some head) None kind at = record o { second = Some at }
part_noted o (Some head) (Some part) kind at = o

abbrev pub with_part : OpenList → Kind → LineColumn → OpenList
with_part o kind at = part_noted o o.head o.second kind at

abbrev pub noted : Piece → LineColumn → List OpenList → List OpenList
noted p at [] = []
noted p at (o ∷ []) = with_part o (kind_of true p) at ∷ []
noted p at (o ∷ q ∷ os) = with_part o (kind_of false p) at ∷ q ∷ os

-- a part of the innermost list: what `@` binds is none of its own
abbrev pub counted : Last → Piece → LineColumn → List OpenList → List OpenList
counted L.Nothing p at os = noted p at os
counted L.Mark p at os = noted p at os
counted L.Open p at os = noted p at os
counted L.Bind p at os = os
counted L.Line p at os = noted p at os
counted L.Other p at os = noted p at os

-- the lists that are open behind a piece that begins at a place
abbrev pub listed : Last → Piece → LineColumn → List OpenList → List OpenList
listed last (space c) at os = os
listed last (line cs) at os = os
listed last (block cs) at os = os
listed last left at os = record { column = at.column; start = at.start; head = None; second = None } ∷ counted last left at os
listed last right at os = drop 1 os
listed last bind at os = os
listed last (name cs) at os = counted last (name cs) at os
listed last (sign cs) at os = counted last (sign cs) at os
listed last (endless cs) at os = os
listed last alone at os = counted last alone at os

-- ---- pieces with their white space

-- how far a text is laid out, by an indentation: what was written last, the place behind it, and the lists that are open there
pub record Layout : Type 0 where
  pub indentation : Indentation
  pub last : Last
  pub at : LineColumn
  pub lists : List OpenList

-- the white space of a gap, where a line begins at a column
abbrev pub white : (column : ℕ) → Gap → List Piece
white column (Spaces n) = replicate n (space 32)
white column (Breaks n) = replicate n (space 10) ++ replicate column (space 32)

abbrev pub behind_gap : (column : ℕ) → Gap → LineColumn → LineColumn
behind_gap column (Spaces n) at = record { line = at.line; column = at.column + n; start = at.start }
behind_gap column (Breaks n) at = record { line = at.line + n; column = column; start = column }

-- the column where a line begins with a piece
abbrev pub line_start : Layout → Piece → ℕ
line_start so_far p = indent so_far.indentation so_far.lists p

-- a piece with its white space
abbrev pub written : Layout → Planned → List Piece
written so_far q = white (line_start so_far q.piece) q.gap ++ q.piece ∷ []

abbrev pub behind_piece : Layout → Piece → LineColumn → Layout
behind_piece so_far p at =
    record { indentation = so_far.indentation; last = last_of p; at = behind at (spelling p); lists = listed so_far.last p at so_far.lists }

abbrev pub layout_behind : Layout → Planned → Layout
layout_behind so_far q = behind_piece so_far q.piece (behind_gap (line_start so_far q.piece) q.gap so_far.at)

abbrev pub laid_from : Layout → List Planned → List Piece
laid_from so_far [] = []
laid_from so_far (q ∷ qs) = written so_far q ++ laid_from (layout_behind so_far q) qs

-- a text ends with one line break, unless it is empty
abbrev pub ending : List Planned → List Piece
ending [] = []
ending (q ∷ qs) = space 10 ∷ []

abbrev pub mark : (marked : Bool) → List Piece
mark marked = if marked then space 65279 ∷ [] else []

abbrev pub first_layout : Indentation → (marked : Bool) → Layout
first_layout i marked = record { indentation = i; last = first_last marked; at = record { line = 0; column = 0; start = 0 }; lists = [] }

-- a plan laid out, behind a byte order mark if there is one
abbrev pub laid_plan : Indentation → (marked : Bool) → List Planned → List Piece
laid_plan i marked qs = mark marked ++ (laid_from (first_layout i marked) qs ++ ending qs)

-- the pieces of a text that is laid out: a byte order mark stays, and the others get the white space of their plan
abbrev pub laid : Indentation → List Piece → List Piece
laid i ps = laid_plan i (is_marked ps) (plan ps)

-- the text of pieces
abbrev pub text_of : List Piece → List ℕ
text_of ps = flat_map spelling ps
