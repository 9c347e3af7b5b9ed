-- Where is a place in a text? (LSP 3.17, `Position`: a line, and a character counted in units of UTF-16.)
use Rattle.std.specs.Prelude.{◌≡◌, ℕ, ◌+◌, ◌<◌, ◌≤◌, nat_lt, true, List, [], ◌∷◌, ◌++◌, ◌⊎◌, length, sum_by, take, drop, if◌then◌else◌}
use Rattle.std.specs.Str.{chars, encode_utf8_all}
use Rattle.text_documents.specs.declared.places.DocumentPosition.{DocumentPosition}
use Rattle.text_documents.specs.Lines.{EndsInLine, is_at_end}

-- how many units a character has in UTF-16
abbrev pub units : ℕ → ℕ
units c = if nat_lt c 65536 then 1 else 2

abbrev pub units_of : List ℕ → ℕ
units_of cs = sum_by units cs

-- how many bytes characters have in UTF-8
abbrev pub size : List ℕ → ℕ
size cs = length (encode_utf8_all cs)

-- the place is between a front of a text and the back that follows it: so many lines end in the front, and what it has of the next
-- line has so many units. (No place is between \r and \n: the front isn't whole lines there, and not unbroken behind them.)
pub record IsBetween (place : DocumentPosition) (front back : List ℕ) : Type 0 where
  pub begun : List ℕ
  pub in_line : EndsInLine place.line front back begun
  pub character : units_of begun ≡ place.character

-- the place is past the end of a line that ends between front and back: the line has fewer units
pub record IsPast (place : DocumentPosition) (front back : List ℕ) : Type 0 where
  pub begun : List ℕ
  pub in_line : EndsInLine place.line front back begun
  pub at_end : is_at_end back ≡ true
  pub character : units_of begun < place.character

-- a text is cut at a byte into these two parts
pub record IsCutAt (text : List ℕ) (offset : ℕ) (front back : List ℕ) : Type 0 where
  pub parts : text ≡ front ++ back
  pub bytes : size front ≡ offset

-- the place is that of a byte of the text
pub record IsPlaceAt (text : List ℕ) (offset : ℕ) (place : DocumentPosition) : Type 0 where
  pub front : List ℕ
  pub back : List ℕ
  pub cut : IsCutAt text offset front back
  pub between : IsBetween place front back

-- the place is past the end of a line that ends at a byte of the text
pub record IsPastAt (text : List ℕ) (offset : ℕ) (place : DocumentPosition) : Type 0 where
  pub front : List ℕ
  pub back : List ℕ
  pub cut : IsCutAt text offset front back
  pub past : IsPast place front back

-- the offset of a place: that of its line's end where it is past it (LSP 3.17: it "defaults back to the line length")
abbrev pub IsOffsetOf : List ℕ → DocumentPosition → ℕ → Type 0
IsOffsetOf text place offset = IsPlaceAt text offset place ⊎ IsPastAt text offset place

-- the text ends in a line before line `n`
pub record LacksLine (text : List ℕ) (n : ℕ) : Type 0 where
  pub last : ℕ
  pub begun : List ℕ
  pub in_line : EndsInLine last text [] begun
  pub before : last < n

-- the place is between the two units of a character
pub record IsInPair (text : List ℕ) (place : DocumentPosition) : Type 0 where
  pub front : List ℕ
  pub wide : ℕ
  pub back : List ℕ
  pub parts : text ≡ front ++ wide ∷ back
  pub pair : units wide ≡ 2
  pub begun : List ℕ
  pub in_line : EndsInLine place.line front (wide ∷ back) begun
  pub character : units_of begun + 1 ≡ place.character

-- a front ends with \r, and \n follows
pub record IsInEnd (front back : List ℕ) : Type 0 where
  pub before : List ℕ
  pub after : List ℕ
  pub front_is : front ≡ before ++ 13 ∷ []
  pub back_is : back ≡ 10 ∷ after

-- two places are the bytes from `from` to `to` of a text
pub record IsRange (text : List ℕ) (begin end : DocumentPosition) (from to : ℕ) : Type 0 where
  pub begins : IsOffsetOf text begin from
  pub ends : IsOffsetOf text end to
  pub ordered : from ≤ to

-- a text's bytes, where those from `from` to `to` are replaced
abbrev pub replaced : List ℕ → ℕ → ℕ → List ℕ → List ℕ
replaced bytes from to new = take from bytes ++ (new ++ drop to bytes)

-- the bytes of a text, where what is between two places is replaced by `new`
pub record IsEdit (bytes : List ℕ) (begin end : DocumentPosition) (new made : List ℕ) : Type 0 where
  pub from : ℕ
  pub to : ℕ
  pub range : IsRange (chars bytes) begin end from to
  pub is : made ≡ replaced bytes from to new
