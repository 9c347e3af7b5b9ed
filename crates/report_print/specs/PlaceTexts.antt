-- How the places of reports are written: the file's name, the line and the column.
use Rattle.std.specs.Prelude.{ℕ, ◌-◌, ◌||◌, max, Bool, not, List, [], ◌∷◌, ◌++◌, Option, Some, None, map, nat_eq, nat_lt, slice_get, string_bytes, unwrap_or, if◌then◌else◌, codes, decimal}
use Rattle.std.specs.List.{starts_with}
use Rattle.core_syntax.specs.Places.{line_of}
use Rattle.core_syntax.specs.declared.syntax.Files.{Files}
use Rattle.model.specs.lists.Syntax.{Position}
use Rattle.text_lines.specs.Columns.{column_of}

-- what a list has at a number, and else a question mark
abbrev pub known_name : List (List ℕ) → ℕ → List ℕ
known_name names n = unwrap_or (slice_get names n) (codes "?")

-- a byte order mark at the beginning of a text takes no column
abbrev pub byte_order_mark : List ℕ
byte_order_mark = 239 ∷ (187 ∷ (191 ∷ []))

abbrev pub counts_columns : List ℕ → ℕ → Bool
counts_columns text offset = nat_lt 1 (line_of text offset) || not (starts_with nat_eq text byte_order_mark)

abbrev pub column_in : List ℕ → ℕ → ℕ
column_in text offset = if counts_columns text offset then column_of text offset else max (column_of text offset - 1) 1

-- in a file that isn't there each place is at its beginning
abbrev pub shown_line : Option (List ℕ) → ℕ → ℕ
shown_line None offset = 1
shown_line (Some text) offset = line_of text offset

abbrev pub shown_column : Option (List ℕ) → ℕ → ℕ
shown_column None offset = 1
shown_column (Some text) offset = column_in text offset

abbrev pub texts_of : Files → List (List ℕ)
texts_of files = map string_bytes files.texts.items

abbrev pub place_text : Files → Position → List ℕ
place_text files at = known_name (map string_bytes files.names.items) at.file
    ++ codes ":" ++ decimal (shown_line (slice_get (texts_of files) at.file) at.offset)
    ++ codes ":" ++ decimal (shown_column (slice_get (texts_of files) at.file) at.offset)
