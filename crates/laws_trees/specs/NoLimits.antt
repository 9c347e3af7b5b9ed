-- What is accepted passes no limit.
use Rattle.std.specs.Prelude.{Bool, List}
use Rattle.model.specs.lists.Syntax.{Position, Definition}
use Rattle.model.specs.lists.TypeTable.{IsValidTypes}
use Rattle.model.specs.lists.Elaborated.{TypedRules}
use Rattle.model.specs.rules.Program.{Program}
use Rattle.model.specs.claims.Environments.{types_read, IsRead}
use Rattle.model.specs.claims.Layers.{own_program, IsAccepted, IsCheckable}
use Rattle.model.specs.claims.Refusals.{NamedLimit, PassedInReading, PassedInBuilding}

-- no rule of a program passes a limit while it is built
abbrev pub BuildsWithinLimits : Program → Type 0
BuildsWithinLimits p = (l : NamedLimit) (at : Position) → PassedInBuilding p l at → ⊥

-- that is so where its rules can be told apart
abbrev pub CheckableProgramsPassNoLimit : Type 0
CheckableProgramsPassNoLimit = (p : Program) → IsCheckable p → BuildsWithinLimits p

-- a limit is passed while definitions are lowered: by a rule while the rules are read, or while those that were read are
-- built
pub data PassedInLowering (defs : List Definition) (expand : Bool) : NamedLimit → Position → Type 0 where
  in_reading : (l : NamedLimit) (at : Position) → IsValidTypes defs → PassedInReading (types_read defs) defs expand l at → PassedInLowering defs expand l at
  in_building : (l : NamedLimit) (at : Position) (rules : TypedRules) → IsRead defs expand rules → PassedInBuilding (own_program defs rules) l at → PassedInLowering defs expand l at

-- none of the six limits is passed, at any position
abbrev pub PassNoLimit : List Definition → Bool → Type 0
PassNoLimit defs expand = (l : NamedLimit) (at : Position) → PassedInLowering defs expand l at → ⊥

-- accepted definitions pass none
abbrev pub AcceptedPassNoLimit : Type 0
AcceptedPassNoLimit = (defs : List Definition) (expand : Bool) (rules : TypedRules) → IsAccepted defs expand rules → PassNoLimit defs expand
