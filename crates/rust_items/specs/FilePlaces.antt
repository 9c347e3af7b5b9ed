-- How places in files are written: the file's name, and the number of the line.
use Rattle.std.specs.Prelude.{ℕ, ◌+◌, Bool, true, false, ◌==◌, ◌||◌, if◌then◌else◌, List, [], ◌∷◌, ◌++◌, length, drop, map, Option, Some, None, slice_get, nat_eq, codes, decimal, encode_utf8}
use Rattle.std.specs.List.{flat_map, starts_with}
use Rattle.std.specs.Global.{Vec}
use Rattle.std.specs.Str.{chars}
use Rattle.core_syntax.specs.Places.{line_of}
use Rattle.model.specs.lists.Syntax.{Position}

-- the beginning of file names, and what is shown in its place
pub record Beginning : Type 0 where
  pub text : List ℕ
  pub shown : List ℕ

-- files by their numbers: their names and their texts; and beginnings of names
pub record Sources : Type 0 where
  pub names : List (List ℕ)
  pub texts : List (List ℕ)
  pub beginnings : List Beginning

-- the end of a line is written as a space
abbrev pub on_line_char : ℕ → ℕ
on_line_char c = if c == 10 || c == 13 then 32 else c

abbrev pub on_line_bytes : ℕ → List ℕ
on_line_bytes c = encode_utf8 (on_line_char c)

-- a text that stays on its line
abbrev pub on_line : List ℕ → List ℕ
on_line text = flat_map on_line_bytes (chars text)

-- a name, with what is shown in the place of its beginning: of several beginnings the first counts
abbrev pub file_written : List Beginning → List ℕ → List ℕ
file_written [] name = on_line name
file_written (b ∷ bs) name = if starts_with nat_eq name b.text then on_line b.shown ++ on_line (drop (length b.text) name) else file_written bs name

abbrev pub file_or_unknown : List Beginning → Option (List ℕ) → List ℕ
file_or_unknown bs None = codes "?"
file_or_unknown bs (Some name) = file_written bs name

-- lines are counted from 1; there is none in a file that isn't there
abbrev pub line_number : Option (List ℕ) → ℕ → ℕ
line_number None offset = 0
line_number (Some text) offset = line_of text offset

abbrev pub place_written : Sources → Position → List ℕ
place_written s at = file_or_unknown s.beginnings (slice_get s.names at.file) ++ codes " line " ++ decimal (line_number (slice_get s.texts at.file) at.offset)

-- where a line begins behind a byte that stands behind so many others: behind a line feed
abbrev pub begin_if : (is_line_feed : Bool) → ℕ → List ℕ
begin_if true n = (n + 1) ∷ []
begin_if false n = []

-- where the lines of a text begin that stands behind so many bytes, but for the first one
abbrev pub begins_behind : ℕ → List ℕ → List ℕ
begins_behind n [] = []
begins_behind n (b ∷ bs) = begin_if (b == 10) n ++ begins_behind (n + 1) bs

abbrev pub line_begins : List ℕ → List ℕ
line_begins text = 0 ∷ begins_behind 0 text

abbrev pub number_lists : List (Vec ℕ) → List (List ℕ)
number_lists vs = map (λ (v : Vec ℕ). v.items) vs
