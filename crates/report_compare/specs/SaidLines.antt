-- What the lines of a text of printed trees say.
use Rattle.std.specs.Prelude.{ℕ, ◌==◌, Bool, not, List, [], ◌∷◌, drop, filter, length, map, nat_eq, codes, if◌then◌else◌}
use Rattle.std.specs.List.{before_first, starts_with}
use Rattle.std.specs.Str.{trim_end}
use Rattle.std.specs.Str.Lines.{lines}

-- what stands behind `;` is a comment, and blanks at the end say nothing
abbrev pub said : List ℕ → List ℕ
said line = trim_end (before_first (λ b. b == 59) line)

abbrev pub is_said : List ℕ → Bool
is_said line = not (length line == 0)

-- a byte order mark at the beginning of a text is no part of it
abbrev pub mark : List ℕ
mark = 239 ∷ (187 ∷ (191 ∷ []))

abbrev pub without_mark : List ℕ → List ℕ
without_mark text = if starts_with nat_eq text mark then drop 3 text else text

-- of some lines what they say, where they say something
abbrev pub said_of : List (List ℕ) → List (List ℕ)
said_of ls = filter is_said (map said ls)

abbrev pub said_lines : List ℕ → List (List ℕ)
said_lines text = said_of (lines (without_mark text))

-- a line that names a term begins a tree
abbrev pub is_head : List ℕ → Bool
is_head line = starts_with nat_eq line (codes "term ")
