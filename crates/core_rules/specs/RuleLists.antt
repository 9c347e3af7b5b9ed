-- How a rule ends within the limits on expansions, and the rules of a list one after another, each from the names met before
-- it: as if each term had a constructor.
use Rattle.std.specs.Prelude.{◌≡◌, ◌≢◌, ◌⊎◌, ℕ, suc, List, [], ◌∷◌, ◌++◌, Option, Some, None}
use Rattle.core_syntax.specs.declared.syntax.Error.{Error}
use Rattle.core_syntax.specs.declared.syntax.Limit.{Limit}
use Rattle.core_syntax.specs.declared.syntax.Limit.TheVariants.{Nesting, Expansions}
use Rattle.core_syntax.specs.declared.syntax.Pos.{Pos}
use Rattle.core_syntax.specs.SyntaxViews.{position}
use Rattle.model.specs.lists.Syntax.{RuleTree}
use Rattle.model.specs.rules.Outcome.{then_option}
use Rattle.model.specs.rules.Typed.{TypedRule}
use Rattle.model.specs.lists.Setting.{Setting, new_scope}
use Rattle.model.specs.lists.Typings.{Typing}
use Rattle.model.specs.lists.Elaborated.{few_enough, most_nested, TypedRules, with_typed}
use Rattle.model.specs.claims.Refusals.{past_limit}
use Rattle.core_types.specs.declared.type_env.TypeEnv.{TypeEnv}
use Rattle.core_types.specs.Envs.{names_of}
use Rattle.core_syntax.specs.ErrorViews.{limit_view, error_view}
use Rattle.core_rules.specs.declared.term_env.TermEnv.{TermEnv}
use Rattle.core_rules.specs.declared.typing.progress.Stop.{Stop}
use Rattle.core_rules.specs.declared.typing.progress.Stop.TheVariants as S
use Rattle.core_rules.specs.RuleReadings.{rule_reading}
use Rattle.core_rules.specs.ShownSettings.{IsSettingOf}

-- a rule from the names met before it, where so many expansions may nest
abbrev pub rule_from : Setting → ℕ → RuleTree → List (List ℕ) → ℕ → Option (Typing TypedRule)
rule_from e id r names d = rule_reading r id e d (new_scope names)

-- within the limits
abbrev pub rule_within : Setting → ℕ → RuleTree → List (List ℕ) → Option (Typing TypedRule)
rule_within e id r names = few_enough (rule_from e id r names most_nested)

-- rules in order, the first of which has this id
abbrev pub rules_within : Setting → ℕ → List RuleTree → List (List ℕ) → Option TypedRules
rules_within e id [] names = Some (record { rules = []; names = names })
rules_within e id (r ∷ rs) names = then_option (rule_within e id r names) (λ a. with_typed a.made (rules_within e (suc id) rs a.scope.names))

-- one more error: that the rule at a place passes a limit
pub record NotesLimit (limit : Limit) (at : Pos) (old new : List Error) : Type 0 where
  pub error : Error
  pub last : new ≡ old ++ error ∷ []
  pub says : error_view error ≡ past_limit (limit_view limit) (position at)

-- that on which the work stopped
abbrev pub NotesStop : Stop → Pos → List Error → List Error → Type 0
NotesStop (S.Memory e) at old new = ⊥
NotesStop S.Nesting at old new = NotesLimit Nesting at old new
NotesStop S.Expansions at old new = NotesLimit Expansions at old new

-- all rules are typed, and nothing is noted; or there are errors, and they can't all be
abbrev pub CollectsRules : TermEnv → TypeEnv → TypeEnv → List Error → List Error → List RuleTree → List TypedRule → Type 0
CollectsRules env old new errors after trees rules =
    (e : Setting) → IsSettingOf old env e
    → ((after ≡ errors) × (rules_within e 0 trees (names_of old) ≡ Some (record { rules = rules; names = names_of new })))
    ⊎ ((after ≢ []) × (rules_within e 0 trees (names_of old) ≡ None))
