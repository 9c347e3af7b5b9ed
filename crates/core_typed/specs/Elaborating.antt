-- What a check does to the errors found so far.
use Rattle.std.specs.Prelude.{◌≡◌, ◌⊎◌, Bool, true, false, List, [], ◌∷◌, ◌++◌, map, All}
use Rattle.model.specs.lists.Syntax.{Position}
use Rattle.model.specs.claims.Refusals.{ill_typed}
use Rattle.core_syntax.specs.declared.syntax.Error.{Error}
use Rattle.core_syntax.specs.ErrorViews.{error_views}
use Rattle.core_syntax.specs.NotedErrors.{NotesMore}
use Rattle.core_syntax.specs.Positions.{HasSingleSpans}

-- a fact holds, or there is an error
abbrev pub Checks : List Error → List Error → Type 0 → Type 0
Checks old new P = ((new ≡ old) × P) ⊎ (NotesMore old new × (P → ⊥))

-- a place at which something is wrong unless a test holds
abbrev pub place_unless : Bool → Position → List Position
place_unless true at = []
place_unless false at = at ∷ []

-- behind the errors so far comes one for each of these places, in order: it says that something there isn't right
pub record NotesEachAt (places : List Position) (old new : List Error) : Type 0 where
  pub more : List Error
  pub added : new ≡ old ++ more
  pub views : error_views more ≡ map ill_typed places
  pub single : All HasSingleSpans more
