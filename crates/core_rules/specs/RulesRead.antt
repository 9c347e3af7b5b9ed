-- What reading all rules of a list gives, by the tables of its terms.
use Rattle.std.specs.Prelude.{◌≡◌, ◌≢◌, ◌⊎◌, ℕ, List, []}
use Rattle.core_syntax.specs.declared.syntax.Error.{Error}
use Rattle.model.specs.lists.Syntax.{Definition}
use Rattle.model.specs.lists.TermTable.{rule_trees}
use Rattle.model.specs.lists.Setting.{Setting}
use Rattle.model.specs.lists.Elaborated.{TypedRules, RulesElaborate, rule_named}
use Rattle.core_types.specs.declared.type_env.TypeEnv.{TypeEnv}
use Rattle.core_types.specs.Envs.{names_of}
use Rattle.core_rules.specs.declared.term_env.TermEnv.{TermEnv}
use Rattle.core_rules.specs.Constructors.{AreTermsNamed}
use Rattle.core_typed.specs.RuleNaming.{AreDefined}
use Rattle.core_typed.specs.RuleViews.{rule_views}
use Rattle.core_rules.specs.TermEnvs.{rule_in_env}
use Rattle.core_rules.specs.ShownSettings.{IsSettingOf}

-- from the names met before, these are the typed rules of a list, in which each term is defined
pub record CanBeRead (e : Setting) (defs : List Definition) (before : List (List ℕ)) (rules : TypedRules) : Type 0 where
  pub elaborate : RulesElaborate e (rule_trees defs) before rules
  pub defined : AreDefined e.terms

-- the rules of a term environment, and all names met
abbrev pub rules_of : TermEnv → TypeEnv → TypedRules
rules_of env tyenv = record { rules = rule_views env.rules.items; names = names_of tyenv }

-- there they are, and each named one is found by its name
pub record AreReadRules (e : Setting) (defs : List Definition) (old new : TypeEnv) (env : TermEnv) : Type 0 where
  pub right : CanBeRead e defs (names_of old) (rules_of env new)
  pub named : (k : ℕ) → rule_in_env env k ≡ rule_named (rule_views env.rules.items) k

-- nothing is wrong and all rules are read; or there are errors, and they can't be
abbrev pub ReadsRules : TermEnv → TypeEnv → TypeEnv → List Definition → TermEnv → List Error → Type 0
ReadsRules env old new defs after errors =
    (e : Setting) → IsSettingOf old env e → AreTermsNamed e (names_of old)
    → ((errors ≡ []) × AreReadRules e defs old new after) ⊎ ((errors ≢ []) × ((rules : TypedRules) → CanBeRead e defs (names_of old) rules → ⊥))
