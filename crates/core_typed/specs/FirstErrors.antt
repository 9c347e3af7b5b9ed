-- Where the first error stands that is noted, if one is.
use Rattle.std.specs.Prelude.{◌≡◌, ◌⊎◌, List, [], ◌∷◌}
use Rattle.model.specs.lists.Syntax.{Position}
use Rattle.core_syntax.specs.declared.syntax.Error.{Error}
use Rattle.core_syntax.specs.Positions.{ErrorStandsAt}

-- there are errors, and the first stands at positions at which something is wrong
pub record BeginsAt (IsWrong : List Position → Type 0) (errors : List Error) : Type 0 where
  pub first : Error
  pub rest : List Error
  pub is : errors ≡ first ∷ rest
  pub positions : List Position
  pub wrong : IsWrong positions
  pub stands : ErrorStandsAt positions first

-- where there was no error before there is none now, or the first one stands so
abbrev pub MayBegin : (List Position → Type 0) → List Error → List Error → Type 0
MayBegin IsWrong old new = old ≡ [] → (new ≡ []) ⊎ BeginsAt IsWrong new
