-- What is a line of a text? A text is the list of its characters. A line is ended by \n, \r\n or \r (LSP 3.17, `EOL`).
use Rattle.std.specs.Prelude.{◌≡◌, ℕ, zero, suc, Bool, true, false, not, ◌||◌, List, [], ◌∷◌, ◌++◌, ◌==◌, ⊤}
use Rattle.std.specs.List.{list_all}

-- how a line is ended
pub data End : Type 0 where
  feed : End
  return_feed : End
  return : End

-- the characters that end it
abbrev pub ending : End → List ℕ
ending feed = 10 ∷ []
ending return_feed = 13 ∷ 10 ∷ []
ending return = 13 ∷ []

-- whether a character is one of those that end a line
abbrev pub is_break : ℕ → Bool
is_break c = c == 10 || c == 13

-- no character of these ends a line
abbrev pub IsUnbroken : List ℕ → Type 0
IsUnbroken cs = list_all (λ c. not (is_break c)) cs ≡ true

abbrev pub begins_with_feed : List ℕ → Bool
begins_with_feed [] = false
begins_with_feed (c ∷ cs) = c == 10

-- whether a line is ended here, or the text
abbrev pub is_at_end : List ℕ → Bool
is_at_end [] = true
is_at_end (c ∷ cs) = is_break c

-- what may follow an end: \r and \n behind it are one end, and not two
abbrev pub MayFollow : End → List ℕ → Type 0
MayFollow feed rest = ⊤
MayFollow return_feed rest = ⊤
MayFollow return rest = begins_with_feed rest ≡ false

-- a front of a text is so many whole lines, each with its end, where `rest` follows
abbrev pub AreLines : ℕ → List ℕ → List ℕ → Type 0
AreLines zero front rest = front ≡ []
AreLines (suc n) front rest = (line : List ℕ) × (end : End) × (more : List ℕ)
    × (front ≡ line ++ (ending end ++ more)) × IsUnbroken line × MayFollow end (more ++ rest) × AreLines n more rest

-- a front of a text ends in line `n`, counted from 0, behind the characters `begun` of that line
pub record EndsInLine (n : ℕ) (front back begun : List ℕ) : Type 0 where
  pub above : List ℕ
  pub front_is : front ≡ above ++ begun
  pub are_lines : AreLines n above (begun ++ back)
  pub unbroken : IsUnbroken begun
