-- What the errors of a list say, rule by rule.
use Rattle.std.proofs.Common.{◌≡◌, ℕ, List, [], ◌∷◌, map, Option, None, subst, refl, sym, ap, ◌∙◌, inl, inr, arith}
use Rattle.std.proofs.lemmas.Grind.{common_steps}
use Rattle.std.proofs.lemmas.List.{append-nil}
use Rattle.model.specs.lists.Syntax.{RuleTree}
use Rattle.model.specs.lists.Setting.{Setting, new_scope}
use Rattle.model.specs.lists.Typings.{Typing}
use Rattle.model.specs.lists.Elaborated.{few_enough, most_nested}
use Rattle.model.specs.rules.Typed.{TypedRule}
use Rattle.laws_errors.specs.AllMade.{rule_reading}
use Rattle.laws_errors.specs.Steps.{Mistake, Step, went_on, stopped}
use Rattle.laws_errors.specs.RuleSteps as R
use Rattle.laws_errors.specs.RuleSteps.{passes, errors_of, step_of_rule, then_rules, rules_step}
use Rattle.laws_errors.specs.ReachedLimits.{reached_limit}
use Rattle.laws_errors.specs.LimitLaws.{first_limit}
use Rattle.laws_errors.specs.StepLaws.{Agrees, is_read, is_wrong, is_stopped, is_stopped_later}
use Rattle.laws_errors.specs.ToldLaws.{SaysOfRule, is_typed, reaches_limit, is_wrong_first, SaysOfRules, no_rule, rule_first, ErrorsTellRules}
use Rattle.laws_errors.proofs.RuleSteps.{rule_steps_agree_lem}
use Rattle.laws_errors.proofs.RuleLimits.{rule_limits_are_first_lem}
use Rattle.laws_errors.proofs.RuleLists.{few_made, none_within}

-- the names met when a step ends
abbrev names_after : Step TypedRule → List (List ℕ)
names_after (went_on m s k es) = s.names
names_after (stopped l s es) = s.names

module _ (e : Setting) (r : RuleTree) (id : ℕ) (names : List (List ℕ)) where
  only_wrong : (w : Mistake) (ws : List Mistake) (after : List (List ℕ)) → few_enough (rule_reading e most_nested id r (new_scope names)) ≡ None → reached_limit e r names ≡ None → SaysOfRule e r names after (map R.is_wrong (w ∷ ws))
  only_wrong w ws after h none = subst (SaysOfRule e r names after) (append-nil (map R.is_wrong (w ∷ ws))) (is_wrong_first id after w ws [] h none (inl refl))

  tells : (t : Step TypedRule) (o : Option (Typing TypedRule)) → rule_reading e most_nested id r (new_scope names) ≡ o → first_limit t ≡ reached_limit e r names → Agrees 0 t o → SaysOfRule e r names (names_after t) (errors_of r.at t)
  tells _ _ reads first (is_read x s k few) = is_typed id (record { made = x; scope = s; expansions = k }) (ap few_enough reads ∙ rw (few_made k few) refl) (sym first)
  tells _ _ reads first (is_wrong m s k w ws) = only_wrong w ws s.names (ap few_enough reads) (sym first)
  tells _ _ reads first (is_stopped l z o past) = reaches_limit id z.names l (ap few_enough reads ∙ none_within o past) (sym first)
  tells _ _ reads first (is_stopped_later l z w ws) = is_wrong_first id z.names w ws (passes l r.at ∷ []) (ap few_enough reads) (sym first) (inr (l, refl))

  then_tells : (rs : List RuleTree) (t : Step TypedRule) → SaysOfRule e r names (names_after t) (errors_of r.at t)
      → ((j : ℕ) (ns : List (List ℕ)) → SaysOfRules e rs ns (rules_step e rs j ns).names (rules_step e rs j ns).errors)
      → SaysOfRules e (r ∷ rs) names (then_rules r.at id t (rules_step e rs)).names (then_rules r.at id t (rules_step e rs)).errors
  then_tells rs t h i = grind (arith, common_steps, rule_first)

pub errors_tell_rules_lem : ErrorsTellRules
errors_tell_rules_lem e templates [] id names = no_rule names
errors_tell_rules_lem e templates (r ∷ rs) id names = then_tells e r id names rs (step_of_rule e id r names)
    (tells e r id names _ _ refl (rule_limits_are_first_lem e templates most_nested id r 0 (new_scope names)) (rule_steps_agree_lem e templates most_nested id r 0 (new_scope names) (omega (arith))))
    (λ j ns. errors_tell_rules_lem e templates rs j ns)
