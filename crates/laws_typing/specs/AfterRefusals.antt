-- What a refusal to read terms or rules leaves of a type environment can be read again.
use Rattle.std.specs.Prelude.{◌↔◌, ℕ, Bool, List, ◌++◌}
use Rattle.model.specs.lists.Syntax.{Definition}
use Rattle.model.specs.lists.TermTable.{IsValidTerms}
use Rattle.model.specs.claims.Environments.{TypesRead, AreReadable, TypeEnvironment, IsReadAs, with_read_names, HasTypedRules, IsLeftByRefusal}
use Rattle.model.specs.claims.Refusals.{Refusal, RefusesTerms, RefusesRules}

-- the types after more names were met
abbrev pub with_more : TypesRead → List (List ℕ) → TypesRead
with_more e more = with_read_names e (e.known.names ++ more)

-- an environment is one that terms and rules are read with, as these types with more names; the terms of a list are valid by
-- them exactly where they were before, and the same errors refuse them
pub record CanBeReadAgain (e : TypesRead) (env : TypeEnvironment) (more : List (List ℕ)) : Type 0 where
  pub readable : AreReadable (with_more e more)
  pub shown : IsReadAs env (with_more e more)
  pub terms : (defs : List Definition) → IsValidTerms e.known defs ↔ IsValidTerms (with_more e more).known defs
  pub refused : (defs : List Definition) (errors : List Refusal) → RefusesTerms e defs errors ↔ RefusesTerms (with_more e more) defs errors

-- so is each that a refusal leaves of one
abbrev pub RefusedEnvironmentsCanBeReadAgain : Type 0
RefusedEnvironmentsCanBeReadAgain = (e : TypesRead) (env : TypeEnvironment) → AreReadable e → (left : IsLeftByRefusal e env) → CanBeReadAgain e env left.more

-- and a list has typed rules by its types exactly where it had some before
abbrev pub RulesAreTypedAgain : Type 0
RulesAreTypedAgain =
    (e : TypesRead) (env : TypeEnvironment) → AreReadable e → (left : IsLeftByRefusal e env) → (defs : List Definition) (expand : Bool) → HasTypedRules e defs expand ↔ HasTypedRules (with_more e left.more) defs expand

-- and the same errors refuse its rules
abbrev pub RulesAreRefusedAgain : Type 0
RulesAreRefusedAgain =
    (e : TypesRead) (env : TypeEnvironment) → AreReadable e → (left : IsLeftByRefusal e env) → (defs : List Definition) (expand : Bool) (errors : List Refusal)
    → RefusesRules e defs expand errors ↔ RefusesRules (with_more e left.more) defs expand errors
