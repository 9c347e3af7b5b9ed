-- The limit that a reading comes to before anything is wrong is the one that stops its steps with nothing wrong.
use Rattle.std.specs.Prelude.{◌≡◌, ℕ, Bool, [], ◌∷◌, Option, Some, None}
use Rattle.model.specs.lists.Syntax.{PatternTree, ExprTree, RuleTree}
use Rattle.model.specs.lists.Tables.{Flags}
use Rattle.model.specs.lists.Setting.{Setting, Scope}
use Rattle.model.specs.claims.Refusals.{NamedLimit}
use Rattle.laws_errors.specs.Steps.{Step, went_on, stopped}
use Rattle.laws_errors.specs.PatternSteps.{pattern_step, deeper_step}
use Rattle.laws_errors.specs.ExprSteps.{expr_step, deeper_expr_step}
use Rattle.laws_errors.specs.RuleSteps.{rule_step}
use Rattle.laws_errors.specs.ReachedLimits.{pattern_limits, expr_limits, rule_limits}
use Rattle.laws_errors.specs.StepLaws.{TemplatesAreWhole}

-- the limit that stops a step before anything is wrong
abbrev pub first_limit : {X : Type 0} → Step X → Option NamedLimit
first_limit (went_on m s k es) = None
first_limit (stopped l s []) = Some l
first_limit (stopped l s (w ∷ ws)) = None

abbrev pub PatternLimitsAreFirst : Type 0
PatternLimitsAreFirst =
    (e : Setting) (multi : Bool) → TemplatesAreWhole e → (d : ℕ) (p : PatternTree) (ty n : ℕ) (s : Scope)
    → first_limit (pattern_step e multi (deeper_step e multi d) p ty n s) ≡ pattern_limits e multi d p ty n s

abbrev pub ExprLimitsAreFirst : Type 0
ExprLimitsAreFirst =
    (e : Setting) (flags : Flags) (d : ℕ) (x : ExprTree) (ty : Option ℕ) (n : ℕ) (s : Scope)
    → first_limit (expr_step e flags (deeper_expr_step e flags d) x ty n s) ≡ expr_limits e flags d x ty n s

abbrev pub RuleLimitsAreFirst : Type 0
RuleLimitsAreFirst =
    (e : Setting) → TemplatesAreWhole e → (d id : ℕ) (r : RuleTree) (n : ℕ) (s : Scope) → first_limit (rule_step e d id r n s) ≡ rule_limits e d r n s
