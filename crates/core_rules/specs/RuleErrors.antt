-- What errors say that are noted while the rules of a list are read: that something isn't right, or that a rule passes a limit
-- on expansions, and then one of them does.
use Rattle.std.specs.Prelude.{◌≡◌, ℕ, List, ◌++◌, Option, None, Contains}
use Rattle.model.specs.lists.Syntax.{Position, RuleTree}
use Rattle.model.specs.lists.Names.{IsDistinct}
use Rattle.model.specs.rules.Typed.{TypedRule}
use Rattle.model.specs.lists.Setting.{Setting}
use Rattle.model.specs.lists.Typings.{Typing}
use Rattle.model.specs.lists.Elaborated.{few_enough, most_nested}
use Rattle.model.specs.claims.Refusals.{of_rule, of_nesting, of_expansions, Refusal, ill_typed, past_limit}
use Rattle.core_rules.specs.RuleLists.{rule_from}

-- what can't be made with at most 256 expansions nested in one another
abbrev pub IsNestedDeeper : (ℕ → Option (Typing TypedRule)) → Type 0
IsNestedDeeper o = o most_nested ≡ None

-- what can't be made with at most 65,536 expansions, however many may nest
abbrev pub IsExpandedMore : (ℕ → Option (Typing TypedRule)) → Type 0
IsExpandedMore o = (d : ℕ) → few_enough (o d) ≡ None

-- one of these rules stands at a place, and it passes a limit from the names met before it, which go on from these
pub record PassesFrom (Passes : (ℕ → Option (Typing TypedRule)) → Type 0) (e : Setting) (trees : List RuleTree) (names : List (List ℕ)) (at : Position) : Type 0 where
  pub rule : RuleTree
  pub here : Contains trees rule
  pub place : rule.at ≡ at
  pub id : ℕ
  pub more : List (List ℕ)
  pub once : IsDistinct (names ++ more)
  pub passes : Passes (rule_from e id rule (names ++ more))

-- an error of reading these rules from these names
abbrev pub IsOfRules : Setting → List RuleTree → List (List ℕ) → Refusal → Type 0
IsOfRules e trees names (ill_typed at) = Unit {0}
IsOfRules e trees names (past_limit of_nesting at) = PassesFrom IsNestedDeeper e trees names at
IsOfRules e trees names (past_limit of_expansions at) = PassesFrom IsExpandedMore e trees names at
IsOfRules e trees names (past_limit (of_rule l) at) = ⊥
IsOfRules e trees names _ = ⊥
