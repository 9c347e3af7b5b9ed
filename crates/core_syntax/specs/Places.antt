-- What places and names are as text, and how a term stands in a list of terms.
use Rattle.std.specs.Prelude.{◌≡◌, ℕ, ◌+◌, ◌-◌, ◌^◌, ◌==◌, if◌then◌else◌, List, [], ◌∷◌, ◌++◌, take, slice_index_or, codes}
use Rattle.std.specs.Fmt.{decimal}
use Rattle.std.specs.List.{count_by}
use Rattle.model.specs.lists.Syntax.{Position, Name}
use Rattle.core_syntax.specs.declared.syntax.Pos.{Pos}
use Rattle.core_syntax.specs.declared.syntax.Ident.{Ident}
use Rattle.core_syntax.specs.SyntaxViews.{position, name_view}

-- a term in a list of terms: where it stands, and its name
abbrev pub term_view : Pos → Ident → Position × Name
term_view p s = (position p, name_view s)

-- the number of the line that the offset stands in: 1 plus the number of line feeds before it
abbrev pub line_of : List ℕ → ℕ → ℕ
line_of text offset = count_by (λ b. b == 10) (take offset text) + 1

-- a place as text, where these are the names and the texts of the files
abbrev pub printed_line : List (List ℕ) → List (List ℕ) → Position → List ℕ
printed_line names texts p = slice_index_or names p.file [] ++ codes " line " ++ decimal (line_of (slice_index_or texts p.file []) p.offset)

-- the end of the piece of one offset: the next one, and the greatest after itself
abbrev pub single_end : Pos → Pos
single_end p = record { file = p.file; offset = if p.offset == 2 ^ 64 - 1 then p.offset else p.offset + 1 }

-- a variant's name after its type's, where the variant's stands
abbrev pub full_name_of : Name → Name → Name
full_name_of ty variant = record { text = ty.text ++ 46 ∷ variant.text; at = variant.at }

-- a list holds what it held, and then all of some others but these last ones
pub record HoldsAllBut {X : Type 0} (held others last now : List X) : Type 0 where
  pub noted : List X
  pub kept : now ≡ held ++ noted
  pub begun : noted ++ last ≡ others

-- a list holds what it held, and then a beginning of some others
abbrev pub HoldsBeginning : {X : Type 0} → List X → List X → List X → Type 0
HoldsBeginning {X} held others now = (last : List X) × HoldsAllBut held others last now
