-- What reading a rule makes, and which limit ends it, by its steps.
use Rattle.std.proofs.Common.{◌≡◌, ℕ, ◌+◌, cond, List, [], ◌∷◌, Option, Some, None, refl, Bool, arith}
use Rattle.model.specs.lists.Syntax.{IfLetTree, RuleTree, PatternTree}
use Rattle.model.specs.lists.Tables.{Flags}
use Rattle.model.specs.lists.Setting.{Setting, Scope}
use Rattle.model.specs.lists.Typings.{followed}
use Rattle.laws_errors.specs.AllMade as A
use Rattle.laws_errors.specs.ReachedLimits as L
use Rattle.laws_errors.specs.ReachedLimits.{or_after}
use Rattle.laws_errors.specs.StepLaws.{TemplatesAreWhole}
use Rattle.core_rules.specs.declared.term_env.TermEnv.{TermEnv}
use Rattle.core_rules.specs.ReachedLimits.{iflet_limits, iflets_limits, rule_limits}
use Rattle.core_rules.specs.RuleReadings.{iflet_reading, iflets_reading, rule_reading}
use Rattle.core_rules.specs.ShownSettings.{IsSettingOf}
use Rattle.std.proofs.lemmas.Option.{none-some}
use Rattle.std.proofs.lemmas.Grind.{common_steps}
use Rattle.model.proofs.Options.{then_some}
use Rattle.core_types.specs.declared.type_env.TypeEnv.{TypeEnv}

-- templates use the arguments that their terms have
kept_template : (expand : Bool) (o : Option PatternTree) (template : PatternTree) → cond expand o None ≡ Some template → o ≡ Some template
kept_template expand o template h = grind (arith, common_steps, none-some)

pub templates_are_whole_in : (tyenv : TypeEnv) (env : TermEnv) (e : Setting) → IsSettingOf tyenv env e → TemplatesAreWhole e
templates_are_whole_in tyenv env e is s x t template given found there size = grind (arith, common_steps, then_some, kept_template)

-- the same readings, and the same limits, as those of the laws
module _ (e : Setting) (d : ℕ) (flags : Flags) where
  iflets_same : (is : List IfLetTree) (s : Scope) → iflets_reading is flags e d s ≡ A.iflets_reading e flags d is s
  iflets_same [] s = refl
  iflets_same (i ∷ is) s = λ j. followed ◌∷◌ (iflet_reading i flags e d s) (λ a. iflets_same is a.scope j)

  limits_same : (is : List IfLetTree) (n : ℕ) (s : Scope) → iflets_limits is flags e d n s ≡ L.iflets_limits e flags d is n s
  limits_same [] n s = refl
  limits_same (i ∷ is) n s = λ j. or_after (iflet_limits i flags e d n s) (iflet_reading i flags e d s) (λ a. limits_same is (n + a.expansions) a.scope j)

pub rule_same : (r : RuleTree) (id : ℕ) (e : Setting) (d : ℕ) (s : Scope) → rule_reading r id e d s ≡ A.rule_reading e d id r s
rule_same r id e d s = grind (arith, common_steps, iflets_same)

pub limit_same : (r : RuleTree) (e : Setting) (d n : ℕ) (s : Scope) → rule_limits r e d n s ≡ L.rule_limits e d r n s
limit_same r e d n s = grind (arith, common_steps, limits_same, iflets_same)
