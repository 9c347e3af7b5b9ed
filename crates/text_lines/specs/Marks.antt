-- What a table of a text's lines holds.
use Rattle.std.specs.Prelude.{◌≡◌, ◌<◌, ◌≤◌, ◌+◌, ◌*◌, ℕ, List, get_or, length, take}
use Rattle.text_lines.specs.declared.LinePlace.{LinePlace}
use Rattle.text_lines.specs.Columns.{column_behind, line_behind}

-- a place stands behind a front of a text
pub record IsBehind (front : List ℕ) (place : LinePlace) : Type 0 where
  pub line : place.line ≡ line_behind front
  pub column : place.column ≡ column_behind front

-- of the first n bytes of a text each 256th has a mark, from the first on
pub record AreMarks (text : List ℕ) (n : ℕ) (marks : List LinePlace) : Type 0 where
  pub mark : (k : ℕ) (d : LinePlace) → k < length marks → IsBehind (take (k * 256) text) (get_or marks k d)
  pub enough : n ≤ length marks * 256
  pub needed : length marks * 256 < n + 256
