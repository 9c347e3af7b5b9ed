-- Names that are met stay: those after a step go on from those before it. What stops a step is a limit on expansions. So the rules of a list are read in order, each from the
-- names met before it.
use Rattle.std.specs.Prelude.{◌≡◌, ℕ, List, [], ◌∷◌, ◌++◌, ⊤}
use Rattle.model.specs.lists.Syntax.{RuleTree}
use Rattle.model.specs.lists.Names.{IsDistinct}
use Rattle.model.specs.lists.Setting.{Setting, Scope}
use Rattle.model.specs.claims.Refusals.{NamedLimit, of_rule, of_nesting, of_expansions}
use Rattle.laws_errors.specs.Steps.{Step, went_on, stopped}
use Rattle.laws_errors.specs.RuleSteps.{RuleError, errors_of, rule_step, step_of_rule, rules_step}

-- the names met where a step ends
abbrev pub names_in : {X : Type 0} → Step X → List (List ℕ)
names_in (went_on m s k es) = s.names
names_in (stopped l s es) = s.names

-- names go on from others, and are as distinct
abbrev pub GoOn : List (List ℕ) → List (List ℕ) → Type 0
GoOn names after = ((more : List (List ℕ)) × (after ≡ names ++ more)) × (IsDistinct names → IsDistinct after)

abbrev pub NamesGoOn : Type 0
NamesGoOn = (e : Setting) (d id : ℕ) (r : RuleTree) (n : ℕ) (s : Scope) → GoOn s.names (names_in (rule_step e d id r n s))

-- a limit on expansions: on how many nest, or on how many there are
abbrev pub IsOfExpansions : NamedLimit → Type 0
IsOfExpansions (of_rule l) = ⊥
IsOfExpansions of_nesting = ⊤
IsOfExpansions of_expansions = ⊤

abbrev pub StopsOfExpansions : {X : Type 0} → Step X → Type 0
StopsOfExpansions (went_on m s k es) = ⊤
StopsOfExpansions (stopped l s es) = IsOfExpansions l

abbrev pub StepsStopOfExpansions : Type 0
StepsStopOfExpansions = (e : Setting) (d id : ℕ) (r : RuleTree) (n : ℕ) (s : Scope) → StopsOfExpansions (rule_step e d id r n s)

-- rules in order from some names, the names after them, and their errors: those of each rule's step, with some id, and then those of
-- the rules behind it
pub data AreInOrder (e : Setting) : List RuleTree → List (List ℕ) → List (List ℕ) → List RuleError → Type 0 where
  no_rule : (names : List (List ℕ)) → AreInOrder e [] names names []
  rule_first : (id : ℕ) (r : RuleTree) (rs : List RuleTree) (names mid after : List (List ℕ)) (errors later : List RuleError) → names_in (step_of_rule e id r names) ≡ mid → errors_of r.at (step_of_rule e id r names) ≡ errors
      → GoOn names mid → AreInOrder e rs mid after later → AreInOrder e (r ∷ rs) names after (errors ++ later)

abbrev pub RulesAreInOrder : Type 0
RulesAreInOrder = (e : Setting) (rs : List RuleTree) (id : ℕ) (names : List (List ℕ)) → AreInOrder e rs names (rules_step e rs id names).names (rules_step e rs id names).errors
