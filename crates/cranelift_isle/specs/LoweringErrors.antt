-- What the errors of lowering are.
use Rattle.std.specs.Prelude.{Bool, List, All}
use Rattle.model.specs.lists.Syntax.{Definition}
use Rattle.model.specs.claims.Layers.{RefusedBy}
use Rattle.laws_trees.specs.OneAnswer.{AreCheckErrors}
use Rattle.core_syntax.specs.ErrorViews.{error_views}
use Rattle.core_syntax.specs.Positions.{ErrorStandsAt, positions_of}
use Rattle.core_syntax.specs.declared.syntax.Error.{Error}
use Rattle.cranelift_isle.specs.Environments.{BreaksWhereRefused, NamesLackedLimits, TellsOfEach}

-- what errors say of definitions that are refused
pub record AreErrorsOfLowering (defs : List Definition) (expand : Bool) (errors : List Error) : Type 0 where
  -- which pass refuses the definitions, and why; the errors are of the forms that this pass has, and name a limit only at a rule
  -- that passes it
  pub pass : RefusedBy defs expand (error_views errors)
  -- if definitions can't be read, the first error is at a place where a condition is broken
  pub breach : BreaksWhereRefused defs expand errors
  -- all errors of types, constants, converters and the typing of rules; of the other errors, the group of the first
  pub told : TellsOfEach defs expand errors
  -- if the types are valid and each rule has a typed rule, the errors are exactly those of the check, in order
  pub exact : AreCheckErrors defs expand (error_views errors)
  -- if the types are valid, the errors name each rule that fails only by the limits on expansions
  pub named : NamesLackedLimits defs expand (error_views errors)
  -- an error names only positions that occur in the definitions, and each of its spans is the span of one position
  pub places : All (ErrorStandsAt (positions_of defs)) errors

-- what holds of all errors that meet the clause `refused`
abbrev pub OfEachRefusal : (List Definition → Bool → List Error → Type 0) → Type 0
OfEachRefusal P = (defs : List Definition) (expand : Bool) (errors : List Error) → AreErrorsOfLowering defs expand errors → P defs expand errors
