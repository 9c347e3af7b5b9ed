-- A text in chunks: the end of an outermost list ends a chunk, and what begins in the first column of a line, outside of block
-- comments, begins one.
use Rattle.std.specs.Prelude.{◌≡◌, ℕ, ◌+◌, ◌-◌, Bool, true, false, not, ◌&&◌, ◌||◌, nat_le, List, [], ◌∷◌, ◌++◌, length, if◌then◌else◌, ◌==◌}
use Rattle.std.specs.Char.{encode_utf8, is_whitespace}
use Rattle.text_reader.specs.declared.chunks.CharacterPlace.{CharacterPlace}
use Rattle.text_reader.specs.declared.chunks.CharacterPlace.TheVariants.{LineBegin, Ended, Within, Opened, Line, Block, Lost}

-- whether a character in the first column begins a chunk: any but white space, the end of a list, and a comment to the line's end
abbrev pub begins_line : ℕ → Bool
begins_line c = not (is_whitespace c || c == 41 || c == 59)

-- whether a character at a place begins a chunk
abbrev pub begins_chunk : CharacterPlace → ℕ → Bool
begins_chunk (LineBegin lists) c = begins_line c
begins_chunk Ended c = true
begins_chunk (Within lists) c = false
begins_chunk (Opened lists) c = false
begins_chunk (Line lists) c = false
begins_chunk (Block lists depth last) c = false
begins_chunk Lost c = false

-- the place behind a parenthesis that ends a list, where so many are begun
abbrev pub ended : ℕ → CharacterPlace
ended lists = if nat_le lists 1 then Ended else Within (lists - 1)

-- one more list is begun; more than a thousand count as a thousand
abbrev pub deeper : ℕ → ℕ
deeper lists = if nat_le 1000 lists then lists else lists + 1

-- the place behind a character outside of comments, where so many lists are begun
abbrev pub moved_between : (lists c : ℕ) → CharacterPlace
moved_between lists c =
    if c == 10 then LineBegin lists else if c == 40 then Opened lists else if c == 59 then Line lists else if c == 41 then ended lists else Within lists

-- the place behind a character of a block comment. A character that began or ended a comment does neither again
abbrev pub moved_in_block : (lists depth last c : ℕ) → CharacterPlace
moved_in_block lists depth last c =
    if last == 40 && c == 59 then (if nat_le 1000 depth then Lost else Block lists (depth + 1) 32)
    else if last == 59 && c == 41 then (if nat_le depth 1 then Within lists else Block lists (depth - 1) 32)
    else Block lists depth c

-- the place behind a character. Where a chunk begins no list is begun
abbrev pub moved : CharacterPlace → ℕ → CharacterPlace
moved (LineBegin lists) c = moved_between (if begins_line c then 0 else lists) c
moved Ended c = moved_between 0 c
moved (Within lists) c = moved_between lists c
moved (Opened lists) c = if c == 59 then Block lists 1 32 else moved_between (deeper lists) c
moved (Line lists) c = if c == 10 then LineBegin lists else Line lists
moved (Block lists depth last) c = moved_in_block lists depth last c
moved Lost c = Lost

-- a part of a text: the offset that it begins at, and its characters
pub record Part : Type 0 where
  pub at : ℕ
  pub text : List ℕ

abbrev pub empty_at : ℕ → Part
empty_at offset = record { at = offset; text = [] }

abbrev pub longer : Part → ℕ → Part
longer p c = record { at = p.at; text = p.text ++ c ∷ [] }

-- a character goes into the chunk before it, or into the empty one behind that
abbrev pub next_parts : (Part → List Part) → CharacterPlace → (empty last : Part) → ℕ → List Part
next_parts others place empty last c =
    if begins_chunk place c then last ∷ others (longer empty c) else others (longer last c)

-- the chunks of a text from an offset on, behind a chunk that may go on
abbrev pub chunks_from : CharacterPlace → Part → ℕ → List ℕ → List Part
chunks_from place last offset [] = last ∷ []
chunks_from place last offset (c ∷ cs) =
    next_parts (λ p. chunks_from (moved place c) p (offset + length (encode_utf8 c)) cs) place (empty_at offset) last c

-- the chunks of a text that stands at an offset; the first is what stands before the second
abbrev pub chunks_at : ℕ → List ℕ → List Part
chunks_at offset text = chunks_from (Within 0) (empty_at offset) offset text

abbrev pub chunks_of : List ℕ → List Part
chunks_of text = chunks_at 0 text

-- the place behind characters
abbrev pub behind_all : CharacterPlace → List ℕ → CharacterPlace
behind_all place [] = place
behind_all place (c ∷ cs) = behind_all (moved place c) cs

-- whether a text ends with a line break outside of block comments
abbrev pub EndsLine : List ℕ → Type 0
EndsLine text = (lists : ℕ) × (behind_all (Within 0) text ≡ LineBegin lists)

-- whether a text ends with the parenthesis that ends an outermost list of its last chunk, or that ends none
abbrev pub EndsList : List ℕ → Type 0
EndsList text = behind_all (Within 0) text ≡ Ended

-- whether a text begins with a character that begins a chunk in the first column
abbrev pub begins : List ℕ → Bool
begins [] = false
begins (c ∷ cs) = begins_line c
