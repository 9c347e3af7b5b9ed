-- What refuses the terms of a list refuses its rules.
use Rattle.std.specs.Prelude.{Bool, List}
use Rattle.model.specs.lists.Syntax.{Definition}
use Rattle.model.specs.claims.Environments.{TypesRead}
use Rattle.model.specs.claims.Refusals.{Refusal, RefusesTerms, RefusesRules}

-- internal extractors expanded or not
abbrev pub RefusedTermsRefuseRules : Type 0
RefusedTermsRefuseRules = (e : TypesRead) (defs : List Definition) (expand : Bool) (errors : List Refusal) → RefusesTerms e defs errors → RefusesRules e defs expand errors
