-- In which line and column does a place of a text stand? A text is the list of its bytes, in UTF-8.
use Rattle.std.specs.Prelude.{ℕ, ◌+◌, ◌&&◌, ◌==◌, nat_le, nat_lt, not, Bool, List, count_by, reverse, take}
use Rattle.std.specs.List.{take_while}

abbrev pub is_feed : ℕ → Bool
is_feed b = b == 10

abbrev pub is_in_line : ℕ → Bool
is_in_line b = not (is_feed b)

-- whether a character begins with a byte: those behind its first are from 128 to 191
abbrev pub begins_char : ℕ → Bool
begins_char b = not (nat_le 128 b && nat_lt b 192)

-- the number of the line behind a front of a text, from 1: one more than line feeds are in the front
abbrev pub line_behind : List ℕ → ℕ
line_behind front = count_by is_feed front + 1

-- the number of the column behind a front of a text, from 1: one more than characters begin behind the front's last line feed
abbrev pub column_behind : List ℕ → ℕ
column_behind front = count_by begins_char (take_while is_in_line (reverse front)) + 1

abbrev pub column_of : List ℕ → ℕ → ℕ
column_of text offset = column_behind (take offset text)
