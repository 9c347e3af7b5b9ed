-- What the code finds, as it walks over a text.
use Rattle.std.specs.Prelude.{ℕ, zero, suc, ◌+◌, ◌-◌, nat_lt, Bool, ◌&&◌, ◌||◌, List, [], ◌∷◌, Option, Some, None, option_and_then, length, if◌then◌else◌, ◌==◌}
use Rattle.std.specs.Char.{encode_utf8}
use Rattle.text_documents.specs.declared.places.DocumentPosition.{DocumentPosition}
use Rattle.text_documents.specs.Lines.{is_break}
use Rattle.text_documents.specs.Places.{units}

-- ---- from a place to what follows it

abbrev pub without_feed : List ℕ → List ℕ
without_feed [] = []
without_feed (c ∷ cs) = if c == 10 then cs else c ∷ cs

-- what follows the first line and its end
abbrev pub after_line : List ℕ → Option (List ℕ)
after_line [] = None
after_line (c ∷ cs) = if c == 10 then Some cs else if c == 13 then Some (without_feed cs) else after_line cs

-- what follows so many lines
abbrev pub after_lines : ℕ → List ℕ → Option (List ℕ)
after_lines zero cs = Some cs
after_lines (suc n) cs = option_and_then (after_lines n) (after_line cs)

-- what follows so many units of the first line, or the whole line
abbrev pub after_units : ℕ → List ℕ → Option (List ℕ)
after_units n [] = Some []
after_units n (c ∷ cs) = if n == 0 || is_break c then Some (c ∷ cs) else if nat_lt n (units c) then None else after_units (n - units c) cs

-- what follows a place
abbrev pub back_at : DocumentPosition → List ℕ → Option (List ℕ)
back_at place cs = option_and_then (after_units place.character) (after_lines place.line cs)

-- ---- from an offset to its place

-- the beginning of the next line
abbrev pub next_line : DocumentPosition → DocumentPosition
next_line p = record { line = p.line + 1; character = 0 }

-- the place behind a character: behind \r the next line has begun already
abbrev pub place_past : DocumentPosition → Bool → ℕ → DocumentPosition
place_past p after_return c =
    if c == 10 then (if after_return then p else next_line p)
    else if c == 13 then next_line p
    else record p { character = p.character + units c }

-- the place where so many bytes are left to go
abbrev pub place_after : DocumentPosition → Bool → ℕ → List ℕ → Option DocumentPosition
place_after p after_return left [] = if left == 0 then Some p else None
place_after p after_return left (c ∷ cs) =
    if left == 0 then (if after_return && c == 10 then None else Some p)
    else if nat_lt left (length (encode_utf8 c)) then None
    else place_after (place_past p after_return c) (c == 13) (left - length (encode_utf8 c)) cs
