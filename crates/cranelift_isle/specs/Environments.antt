-- What definitions become before their rules are compared, and what the errors say where they become nothing.
use Rattle.std.specs.Prelude.{Bool, List}
use Rattle.core_syntax.specs.declared.syntax.Error.{Error}
use Rattle.model.specs.lists.Elaborated.{TypedRules}
use Rattle.model.specs.lists.Syntax.{Definition}
use Rattle.model.specs.lists.TypeTable.{IsValidTypes}
use Rattle.model.specs.claims.Environments.{types_read, AreRulesOf, HasTypedRules, TermEnvironment, TypeEnvironment}
use Rattle.model.specs.claims.Refusals.{Refusal}
use Rattle.core_rules.specs.LimitsNamed.{NamesTypedPastLimits, NamesFirstPastLimits}
use Rattle.core_rules.specs.RuleBreaches.{FirstBreaksRules}
use Rattle.core_rules.specs.RulesTold.{TellsReading}
use Rattle.core_types.specs.TypeBreaches.{FirstBreaksTypes}
use Rattle.core_types.specs.TypeErrors.{AreErrorsOfTypes}

-- the types of definitions are valid, their terms are valid and defined, each rule has a typed rule within the limits on
-- expansions, and no two have one name
abbrev pub AreTyped : List Definition → Bool → Type 0
AreTyped defs expand = IsValidTypes defs × HasTypedRules (types_read defs) defs expand

-- these are their environments
abbrev pub AreEnvironments : List Definition → Bool → TypeEnvironment → TermEnvironment → Type 0
AreEnvironments defs expand types terms = (rules : TypedRules) × AreRulesOf (types_read defs) defs expand rules terms types

-- the first error stands at what breaks a condition: on types, where these aren't valid; else on terms and rules, where these
-- can't be read
pub record BreaksWhereRefused (defs : List Definition) (expand : Bool) (errors : List Error) : Type 0 where
  pub types : (IsValidTypes defs → ⊥) → FirstBreaksTypes defs errors
  pub rules : IsValidTypes defs → (HasTypedRules (types_read defs) defs expand → ⊥) → FirstBreaksRules (types_read defs) defs expand errors

-- where the types aren't valid, which errors types and constants have, and in which order; else, where the terms aren't, of which
-- group the first error is, and which errors converters have; else which errors the typing of each rule has, one rule after
-- another, behind which others may stand
pub record TellsOfEach (defs : List Definition) (expand : Bool) (errors : List Error) : Type 0 where
  pub types : (IsValidTypes defs → ⊥) → AreErrorsOfTypes defs errors
  pub rules : IsValidTypes defs → (HasTypedRules (types_read defs) defs expand → ⊥) → TellsReading (types_read defs) defs expand errors

-- where the types are valid, an error names a limit on expansions at each rule that lacks nothing but these limits; and where
-- the rules of the whole list lack nothing else, at the first one that has no typed rule within them
pub record NamesLackedLimits (defs : List Definition) (expand : Bool) (errors : List Refusal) : Type 0 where
  pub each_rule : IsValidTypes defs → NamesTypedPastLimits (types_read defs) defs expand errors
  pub first_rule : IsValidTypes defs → NamesFirstPastLimits (types_read defs) defs expand errors
