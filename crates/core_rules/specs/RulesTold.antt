-- What errors say that are noted while the rules of a list are read: those of each rule stand one after another, then those of
-- later stages. A limit on expansions is named alone where the reading of a rule comes to it before anything in the rule is wrong,
-- and else only behind what is.
use Rattle.std.specs.Prelude.{◌≡◌, ◌≢◌, ◌⊎◌, ℕ, Bool, List, [], ◌∷◌, ◌++◌, All, Some, None}
use Rattle.core_syntax.specs.declared.syntax.Error.{Error}
use Rattle.core_syntax.specs.ErrorViews.{error_view, error_views}
use Rattle.core_syntax.specs.NotedErrors.{AreIllTyped}
use Rattle.core_syntax.specs.Positions.{ErrorStandsAt, rule_positions}
use Rattle.model.specs.lists.Syntax.{Position, RuleTree, Definition}
use Rattle.model.specs.lists.Names.{IsDistinct}
use Rattle.model.specs.lists.TermTable.{rule_trees, IsValidTerms, term_names_met}
use Rattle.model.specs.lists.Setting.{Setting}
use Rattle.model.specs.lists.Typings.{Typing}
use Rattle.model.specs.rules.Typed.{TypedRule}
use Rattle.model.specs.claims.Environments.{TypesRead, setting_of}
use Rattle.model.specs.claims.Refusals.{NamedLimit, past_limit}
use Rattle.core_terms.specs.TermErrors.{AreErrorsOfTerms}
use Rattle.core_rules.specs.RuleListTaking.{RulesErrAs}
use Rattle.core_rules.specs.ReachedLimits.{reached_limit}
use Rattle.core_rules.specs.RuleLists.{rule_within}
use Rattle.core_rules.specs.RulePositions.{templates_positions}

-- behind what is wrong with a rule at a place one limit may stand, which the work on it came to later
abbrev pub IsLimitAtMost : Position → List Error → Type 0
IsLimitAtMost at errors = (errors ≡ []) ⊎ ((l : NamedLimit) × (error : Error) × (errors ≡ error ∷ []) × (error_view error ≡ past_limit l at))

-- the errors of a rule, from the names met before it, and the names met after it, as if each term had a constructor: it is typed, and
-- has none; its reading comes to a limit before anything in it is wrong, and this limit is the only error; or something is wrong
-- before any limit, and this is said first, at its positions or at those of the templates that are expanded
pub data TellsRule (e : Setting) (r : RuleTree) (names after : List (List ℕ)) : List Error → Type 0 where
  is_read : (id : ℕ) (a : Typing TypedRule) → rule_within e id r names ≡ Some a → after ≡ a.scope.names → reached_limit e r names ≡ None → TellsRule e r names after []
  reaches_limit : (id : ℕ) (l : NamedLimit) (error : Error) → rule_within e id r names ≡ None → reached_limit e r names ≡ Some l → error_view error ≡ past_limit l r.at → TellsRule e r names after (error ∷ [])
  is_wrong_first : (id : ℕ) (wrong rest : List Error) → rule_within e id r names ≡ None → reached_limit e r names ≡ None → wrong ≢ [] → AreIllTyped wrong
      → All (ErrorStandsAt (rule_positions r ++ templates_positions e.expand e.terms)) wrong → IsLimitAtMost r.at rest → TellsRule e r names after (wrong ++ rest)

-- those of rules in order, each from the names met before it
pub data TellsRules (e : Setting) : List RuleTree → List (List ℕ) → List (List ℕ) → List Error → Type 0 where
  no_rule : (names : List (List ℕ)) → TellsRules e [] names names []
  rule_first : (r : RuleTree) (rs : List RuleTree) (names more after : List (List ℕ)) (errors later : List Error) → IsDistinct (names ++ more) → TellsRule e r names (names ++ more) errors → TellsRules e rs (names ++ more) after later
      → TellsRules e (r ∷ rs) names after (errors ++ later)

-- the errors of the rules, behind which come those of later stages, none of which names a limit
pub record TellsStages (e : Setting) (trees : List RuleTree) (names : List (List ℕ)) (errors : List Error) : Type 0 where
  pub typing : List Error
  pub later : List Error
  pub stages : errors ≡ typing ++ later
  pub after : List (List ℕ)
  pub rules : TellsRules e trees names after typing
  pub forms : AreIllTyped later

-- what the errors of a whole list tell: of its terms, where these aren't valid, else of its rules. These are exactly those of the
-- steps of its rules, before all others
pub record TellsReading (e : TypesRead) (defs : List Definition) (expand : Bool) (errors : List Error) : Type 0 where
  pub terms : (IsValidTerms e.known defs → ⊥) → AreErrorsOfTerms e defs errors
  pub rules : IsValidTerms e.known defs → TellsStages (setting_of e defs expand) (rule_trees defs) (term_names_met e.known defs) errors
  pub steps : RulesErrAs e defs expand (error_views errors)
