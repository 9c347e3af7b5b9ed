-- What a table of the places of a text holds.
use Rattle.std.specs.Prelude.{◌≡◌, ◌+◌, ◌≤◌, ℕ, false, List}
use Rattle.std.specs.Str.{chars}
use Rattle.text_documents.specs.declared.places.Mark.{Mark}
use Rattle.text_documents.specs.Walks.{place_after}

-- a mark in a text: a walk over the text goes on from it as from the beginning
pub record IsMark (text : List ℕ) (mark : Mark) : Type 0 where
  pub goes_on : (n : ℕ) → place_after (record { line = 0; character = 0 }) false (mark.offset + n) text
      ≡ place_after mark.walk.place mark.walk.after_return n (chars mark.rest.now)
  pub line : mark.walk.place.line ≤ mark.offset
  pub character : mark.walk.place.character ≤ mark.offset
