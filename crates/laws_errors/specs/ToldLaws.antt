-- What the errors of a list say: those of each rule stand one after another, each rule from the names met before it. A limit is said
-- alone where the reading of a rule comes to it before anything in it is wrong, and else only behind what is.
use Rattle.std.specs.Prelude.{◌≡◌, ◌⊎◌, ℕ, List, [], ◌∷◌, ◌++◌, map, Some, None}
use Rattle.model.specs.lists.Syntax.{Position, RuleTree}
use Rattle.model.specs.lists.Setting.{Setting}
use Rattle.model.specs.lists.Typings.{Typing}
use Rattle.model.specs.rules.Typed.{TypedRule}
use Rattle.model.specs.claims.Refusals.{NamedLimit}
use Rattle.laws_errors.specs.AllMade.{rule_within}
use Rattle.laws_errors.specs.Steps.{Mistake}
use Rattle.laws_errors.specs.RuleSteps.{RuleError, is_wrong, passes, rules_step}
use Rattle.laws_errors.specs.ReachedLimits.{reached_limit}
use Rattle.laws_errors.specs.StepLaws.{TemplatesAreWhole}

-- behind what is wrong with a rule at a place one limit may stand
abbrev pub HasOneLimitAtMost : Position → List RuleError → Type 0
HasOneLimitAtMost at errors = (errors ≡ []) ⊎ ((l : NamedLimit) × (errors ≡ passes l at ∷ []))

-- the errors of a rule, from the names met before it, and the names met after it: it is typed, and has none; its reading comes to a
-- limit before anything in it is wrong, and this limit is the only error; or something is wrong before any limit, and is said first
pub data SaysOfRule (e : Setting) (r : RuleTree) (names : List (List ℕ)) : List (List ℕ) → List RuleError → Type 0 where
  is_typed : (id : ℕ) (a : Typing TypedRule) → rule_within e id r names ≡ Some a → reached_limit e r names ≡ None → SaysOfRule e r names a.scope.names []
  reaches_limit : (id : ℕ) (after : List (List ℕ)) (l : NamedLimit) → rule_within e id r names ≡ None → reached_limit e r names ≡ Some l → SaysOfRule e r names after (passes l r.at ∷ [])
  is_wrong_first : (id : ℕ) (after : List (List ℕ)) (w : Mistake) (ws : List Mistake) (rest : List RuleError) → rule_within e id r names ≡ None → reached_limit e r names ≡ None → HasOneLimitAtMost r.at rest
      → SaysOfRule e r names after (map is_wrong (w ∷ ws) ++ rest)

-- those of rules in order
pub data SaysOfRules (e : Setting) : List RuleTree → List (List ℕ) → List (List ℕ) → List RuleError → Type 0 where
  no_rule : (names : List (List ℕ)) → SaysOfRules e [] names names []
  rule_first : (r : RuleTree) (rs : List RuleTree) (names more after : List (List ℕ)) (errors later : List RuleError) → SaysOfRule e r names more errors → SaysOfRules e rs more after later
      → SaysOfRules e (r ∷ rs) names after (errors ++ later)

abbrev pub ErrorsTellRules : Type 0
ErrorsTellRules =
    (e : Setting) → TemplatesAreWhole e → (rs : List RuleTree) (id : ℕ) (names : List (List ℕ)) → SaysOfRules e rs names (rules_step e rs id names).names (rules_step e rs id names).errors
