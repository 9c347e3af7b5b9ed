-- What is noted while definitions are read.
use Rattle.std.specs.Prelude.{◌≡◌, ◌≢◌, ◌⊎◌, List, [], ◌++◌, All}
use Rattle.model.specs.claims.Refusals.{IsIllTyped}
use Rattle.core_syntax.specs.declared.syntax.Error.{Error}
use Rattle.core_syntax.specs.ErrorViews.{error_view}

-- each of these errors says that something isn't right, and none that a limit was passed
abbrev pub AreIllTyped : List Error → Type 0
AreIllTyped es = All (λ e. IsIllTyped (error_view e)) es

-- the errors so far stay, and at least one more comes behind them, each of which says that something isn't right
pub record NotesMore (old new : List Error) : Type 0 where
  pub more : List Error
  pub added : new ≡ old ++ more
  pub some_more : more ≢ []
  pub forms : AreIllTyped more

-- nothing was noted, or something was
abbrev pub MayNoteMore : List Error → List Error → Type 0
MayNoteMore old new = (new ≡ old) ⊎ NotesMore old new
