-- Errors that are told of definitions, one after another: of which, how many, and in which order.
use Rattle.std.specs.Prelude.{◌≡◌, ℕ, List, [], ◌∷◌, ◌++◌, ◌⊎◌, length, All}
use Rattle.model.specs.lists.Syntax.{Position, Definition}
use Rattle.model.specs.claims.Refusals.{IsIllTyped}
use Rattle.core_syntax.specs.declared.syntax.Error.{Error}
use Rattle.core_syntax.specs.ErrorViews.{error_view}
use Rattle.core_syntax.specs.Positions.{ErrorStandsAt}

-- an error says that something at one of these positions isn't right
pub record IsToldAt (positions : List Position) (e : Error) : Type 0 where
  pub form : IsIllTyped (error_view e)
  pub stands : ErrorStandsAt positions e

-- so many errors, each of which says so
pub record Tells (count : ℕ) (positions : List Position) (es : List Error) : Type 0 where
  pub many : length es ≡ count
  pub each : All (IsToldAt positions) es

-- no error where something is right, and one where it isn't
abbrev pub TellsUnless : Type 0 → List Position → List Error → Type 0
TellsUnless Right positions es = (Right × (es ≡ [])) ⊎ ((Right → ⊥) × Tells 1 positions es)

-- the errors of a list of definitions are those of each, one after another: it says which are those of a definition that
-- comes after others
pub data Told (Says : List Definition → Definition → List Error → Type 0) : List Definition → List Error → Type 0 where
  of_none : Told Says [] []
  of_one_more : (before : List Definition) (d : Definition) (es own : List Error) → Told Says before es → Says before d own → Told Says (before ++ d ∷ []) (es ++ own)

-- so many errors come behind those so far
pub record Notes (count : ℕ) (positions : List Position) (old new : List Error) : Type 0 where
  pub more : List Error
  pub added : new ≡ old ++ more
  pub tells : Tells count positions more

-- those of a definition that comes after others
pub record NotesOf (Says : List Definition → Definition → List Error → Type 0) (before : List Definition) (d : Definition) (old new : List Error) : Type 0 where
  pub more : List Error
  pub added : new ≡ old ++ more
  pub says : Says before d more

-- those of a list of definitions
pub record NotesEach (Says : List Definition → Definition → List Error → Type 0) (defs : List Definition) (old new : List Error) : Type 0 where
  pub more : List Error
  pub added : new ≡ old ++ more
  pub told : Told Says defs more
