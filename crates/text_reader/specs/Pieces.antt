-- The pieces of a text: each text has one list of them.
use Rattle.std.specs.Prelude.{◌≡◌, ℕ, zero, suc, ◌+◌, ◌-◌, Bool, true, false, not, ◌&&◌, ◌||◌, nat_le, List, [], ◌∷◌, ◌++◌, take, drop, Result, Ok, Err, if◌then◌else◌, ◌==◌, length, ⊤}
use Rattle.std.specs.List.{list_all, take_while}
use Rattle.std.specs.Char.{is_whitespace}
use Rattle.std.specs.Str.{encode_utf8_all}
use Rattle.text_reader.specs.declared.errors.Mistake.{Mistake}
use Rattle.text_reader.specs.declared.errors.Mistake.TheVariants.{CommentEnd, Depth}

pub data Piece : Type 0 where
  -- a character of white space, or the byte order mark at the beginning
  space : ℕ → Piece
  -- `;` and these characters, to the end of the line
  line : List ℕ → Piece
  -- `(;` and these characters, which end with `;)`
  block : List ℕ → Piece
  left : Piece
  right : Piece
  bind : Piece
  name : List ℕ → Piece
  -- `$` and these characters
  sign : List ℕ → Piece
  -- what no text can have: `(;` and all that follows, where the comment isn't ended or nests too deep; `$` without a name
  endless : List ℕ → Piece
  alone : Piece

-- the characters of a piece
abbrev pub spelling : Piece → List ℕ
spelling (space c) = c ∷ []
spelling (line cs) = 59 ∷ cs
spelling (block cs) = 40 ∷ 59 ∷ cs
spelling left = 40 ∷ []
spelling right = 41 ∷ []
spelling bind = 64 ∷ []
spelling (name cs) = cs
spelling (sign cs) = 36 ∷ cs
spelling (endless cs) = 40 ∷ 59 ∷ cs
spelling alone = 36 ∷ []

-- how many bytes characters take
abbrev pub size : List ℕ → ℕ
size cs = length (encode_utf8_all cs)

-- whether a character may stand in a word, past its beginning
abbrev pub is_in_word : ℕ → Bool
is_in_word c = not (is_whitespace c) && not (c == 40 || c == 41 || c == 59 || c == 64)

abbrev pub is_space : ℕ → ℕ → Bool
is_space offset c = is_whitespace c || (c == 65279 && offset == 0)

abbrev pub begins_word : ℕ → ℕ → Bool
begins_word offset c = is_in_word c && not (c == 36) && not (c == 65279 && offset == 0)

-- where a block comment ends: what follows its end, where so many comments are open, after the character `last`. A character
-- that began or ended a comment does neither again
abbrev pub after_comment : ℕ → ℕ → List ℕ → Result (List ℕ) Mistake
after_comment depth last [] = Err CommentEnd
after_comment depth last (c ∷ cs) =
    if last == 40 && c == 59 then (if nat_le 1000 depth then Err Depth else after_comment (depth + 1) 32 cs)
    else if last == 59 && c == 41 then (if nat_le depth 1 then Ok cs else after_comment (depth - 1) 32 cs)
    else after_comment depth c cs

-- whether a text begins so that a word ends before it
abbrev pub ends_word : List ℕ → Bool
ends_word [] = true
ends_word (c ∷ cs) = not (is_in_word c)

abbrev pub ends_line : List ℕ → Bool
ends_line [] = true
ends_line (c ∷ cs) = c == 10

abbrev pub begins_with : ℕ → List ℕ → Bool
begins_with d [] = false
begins_with d (c ∷ cs) = c == d

abbrev pub is_name : ℕ → List ℕ → Bool
is_name offset [] = false
is_name offset (c ∷ cs) = begins_word offset c && list_all is_in_word cs

abbrev pub is_constant : List ℕ → Bool
is_constant [] = false
is_constant (c ∷ cs) = list_all is_in_word (c ∷ cs)

-- whether a piece may stand at an offset, before a rest of the text: it is whole there, and as long as can be
abbrev pub Stands : ℕ → Piece → List ℕ → Type 0
Stands offset (space c) rest = is_space offset c ≡ true
Stands offset (line cs) rest = (list_all (λ c. not (c == 10)) cs ≡ true) × (ends_line rest ≡ true)
Stands offset (block cs) rest = after_comment 1 32 (cs ++ rest) ≡ Ok rest
Stands offset left rest = begins_with 59 rest ≡ false
Stands offset right rest = ⊤
Stands offset bind rest = ⊤
Stands offset (name cs) rest = (is_name offset cs ≡ true) × (ends_word rest ≡ true)
Stands offset (sign cs) rest = (is_constant cs ≡ true) × (ends_word rest ≡ true)
Stands offset (endless cs) rest = (rest ≡ []) × (m : Mistake) × (after_comment 1 32 cs ≡ Err m)
Stands offset alone rest = ends_word rest ≡ true

-- the text from an offset on is these pieces
abbrev pub AreIn : ℕ → List ℕ → List Piece → Type 0
AreIn offset text [] = text ≡ []
AreIn offset text (p ∷ ps) = (rest : List ℕ) × (text ≡ spelling p ++ rest) × Stands offset p rest × AreIn (offset + size (spelling p)) rest ps

-- ---- the pieces of a text

-- the comment that follows a parenthesis, by what follows the comment
abbrev pub comment_of : List ℕ → Result (List ℕ) Mistake → Piece
comment_of cs (Ok rest) = block (take (length cs - length rest) cs)
comment_of cs (Err m) = endless cs

-- what a parenthesis begins
abbrev pub left_of : List ℕ → Piece
left_of [] = left
left_of (c ∷ cs) = if c == 59 then comment_of cs (after_comment 1 32 cs) else left

-- what the sign of a constant begins
abbrev pub sign_of : List ℕ → Piece
sign_of cs = if ends_word cs then alone else sign (take_while is_in_word cs)

-- the longest piece that a text begins with, at an offset
abbrev pub first_piece : ℕ → ℕ → List ℕ → Piece
first_piece offset c cs =
    if c == 40 then left_of cs
    else if c == 41 then right
    else if c == 59 then line (take_while (λ d. not (d == 10)) cs)
    else if c == 64 then bind
    else if c == 36 then sign_of cs
    else if is_space offset c then space c
    else name (c ∷ take_while is_in_word cs)

-- so many pieces at most, from an offset on
abbrev pub pieces_from : ℕ → ℕ → List ℕ → List Piece
pieces_from most offset [] = []
pieces_from zero offset (c ∷ cs) = []
pieces_from (suc most) offset (c ∷ cs) =
    let p = first_piece offset c cs in p ∷ pieces_from most (offset + size (spelling p)) (drop (length (spelling p)) (c ∷ cs))

-- the pieces of a text, which are no more than its characters
abbrev pub pieces_of : List ℕ → List Piece
pieces_of text = pieces_from (length text) 0 text
