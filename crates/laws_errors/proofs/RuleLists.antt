-- The errors of a list of rules.
use Rattle.std.proofs.Common.{◌≡◌, ℕ, suc, ◌+◌, ◌≤◌, true, nat_le, List, [], ◌∷◌, ◌++◌, length, map, Option, Some, None, subst, refl, ap, ◌∙◌, arith}
use Rattle.std.proofs.lemmas.Grind.{common_steps}
use Rattle.std.proofs.lemmas.Bool.{le-leb}
use Rattle.model.specs.lists.Syntax.{Position, RuleTree}
use Rattle.model.specs.rules.Outcome.{then_option}
use Rattle.model.specs.rules.Typed.{TypedRule}
use Rattle.model.specs.lists.Setting.{Setting, new_scope}
use Rattle.model.specs.lists.Typings.{Typing}
use Rattle.model.specs.lists.Elaborated.{few_enough, most_expansions, most_nested, TypedRules, with_typed}
use Rattle.laws_errors.specs.AllMade.{rule_reading, rule_within, rules_within}
use Rattle.laws_errors.specs.Steps.{Step}
use Rattle.laws_errors.specs.RuleSteps as R
use Rattle.laws_errors.specs.RuleSteps.{RuleError, passes, errors_of, step_of_rule, RulesStep, behind, with_rule, then_rules, rules_step}
use Rattle.laws_errors.specs.StepLaws.{TakesTooMany, Agrees, is_read, is_wrong, is_stopped, is_stopped_later, ListAgrees, all_read, some_wrong, RulesStepsAgree, FirstErrorIsOf, FirstErrorIsTheBreach}
use Rattle.laws_errors.proofs.RuleSteps.{rule_steps_agree_lem}

-- what takes too many expansions isn't within the limits
pub none_within : (o : Option (Typing TypedRule)) → TakesTooMany 0 o → few_enough o ≡ None
none_within o past = grind (arith, common_steps)

pub few_made : (k : ℕ) → 0 + k ≤ most_expansions → nat_le k most_expansions ≡ true
few_made k h = le-leb k most_expansions (omega (arith, h))

-- a rule that is read, before the rest of the list
next_read : (q : TypedRule) (l : RulesStep) (o : Option TypedRules) → ListAgrees l o → ListAgrees (behind [] (with_rule q l)) (with_typed q o)
next_read q _ _ (all_read l) = all_read (record { rules = q ∷ l.rules; names = l.names })
next_read q _ _ (some_wrong l h) = some_wrong _ h

then_agrees : (at : Position) (id : ℕ) (t : Step TypedRule) (o : Option (Typing TypedRule)) (next : ℕ → List (List ℕ) → RulesStep) (rest : Typing TypedRule → Option TypedRules) → Agrees 0 t o
    → ((a : Typing TypedRule) → ListAgrees (next (suc id) a.scope.names) (rest a)) → ListAgrees (then_rules at id t next) (then_option (few_enough o) (λ a. with_typed a.made (rest a)))
then_agrees at id t o next rest a r = grind (arith, common_steps, few_made, next_read, some_wrong, none_within)

pub rules_steps_agree_lem : RulesStepsAgree
rules_steps_agree_lem e templates [] id names = all_read (record { rules = []; names = names })
rules_steps_agree_lem e templates (r ∷ rs) id names = then_agrees r.at id _ _ (rules_step e rs) (λ a. rules_within e (suc id) rs a.scope.names)
    (rule_steps_agree_lem e templates most_nested id r 0 (new_scope names) (omega (arith))) (λ a. rules_steps_agree_lem e templates rs (suc id) a.scope.names)

module _ (e : Setting) (r : RuleTree) (rs : List RuleTree) (id : ℕ) (names : List (List ℕ)) (error : RuleError) (rest : List RuleError) where
  -- the first rule has an error
  of_first : (t : Step TypedRule) → step_of_rule e id r names ≡ t → rule_within e id r names ≡ None → (w : RuleError) (own later : List RuleError) → errors_of r.at t ≡ w ∷ own → w ∷ (own ++ later) ≡ error ∷ rest
      → FirstErrorIsOf e (r ∷ rs) id names error rest
  of_first t is h w own later said h' = record {
    before = [];
    rule = r;
    after = rs;
    parts = refl;
    read = record { rules = []; names = names };
    typed = refl;
    untyped = subst (λ j. rule_within e j r names ≡ None) same h;
    own = own;
    later = later;
    said = subst (λ j. errors_of r.at (step_of_rule e j r names) ≡ error ∷ own) same (ap (errors_of r.at) is ∙ said ∙ cc);
    others = cc;
  }
    where
      same : id ≡ id + 0
      same = omega (arith)

  -- or it is read, and another one has
  of_next : (a : Typing TypedRule) → rule_within e id r names ≡ Some a → FirstErrorIsOf e rs (suc id) a.scope.names error rest → FirstErrorIsOf e (r ∷ rs) id names error rest
  of_next a h f = record {
    before = r ∷ f.before;
    rule = f.rule;
    after = f.after;
    parts = ap (λ l. r ∷ l) f.parts;
    read = record { rules = a.made ∷ f.read.rules; names = f.read.names };
    typed = ap (λ o. then_option o (λ b. with_typed b.made (rules_within e (suc id) f.before b.scope.names))) h ∙ ap (with_typed a.made) f.typed;
    untyped = subst (λ j. rule_within e j f.rule f.read.names ≡ None) same f.untyped;
    own = f.own;
    later = f.later;
    said = subst (λ j. errors_of f.rule.at (step_of_rule e j f.rule f.read.names) ≡ error ∷ f.own) same f.said;
    others = f.others;
  }
    where
      same : suc id + length f.before ≡ id + suc (length f.before)
      same = omega (arith)

  of_rule : (t : Step TypedRule) (o : Option (Typing TypedRule)) → step_of_rule e id r names ≡ t → rule_reading e most_nested id r (new_scope names) ≡ o → Agrees 0 t o
      → ((j : ℕ) (ns : List (List ℕ)) → (rules_step e rs j ns).errors ≡ error ∷ rest → FirstErrorIsOf e rs j ns error rest)
      → (then_rules r.at id t (rules_step e rs)).errors ≡ error ∷ rest → FirstErrorIsOf e (r ∷ rs) id names error rest
  of_rule _ _ is reads (is_read x s k few) others h = of_next (record { made = x; scope = s; expansions = k }) (ap few_enough reads ∙ rw (few_made k few) refl) (others (suc id) s.names h)
  of_rule _ _ is reads (is_wrong None s k w ws) others h = of_first _ is (ap few_enough reads) (R.is_wrong w) (map R.is_wrong ws) (rules_step e rs id s.names).errors refl h
  of_rule _ _ is reads (is_wrong (Some q) s k w ws) others h = of_first _ is (ap few_enough reads) (R.is_wrong w) (map R.is_wrong ws) (rules_step e rs (suc id) s.names).errors refl h
  of_rule _ _ is reads (is_stopped l z o past) others h = of_first _ is (ap few_enough reads ∙ none_within o past) (passes l r.at) [] (rules_step e rs id z.names).errors refl h
  of_rule _ _ is reads (is_stopped_later l z w ws) others h = of_first _ is (ap few_enough reads) (R.is_wrong w) (map R.is_wrong ws ++ passes l r.at ∷ []) (rules_step e rs id z.names).errors refl h

pub first_error_is_the_breach_lem : FirstErrorIsTheBreach
first_error_is_the_breach_lem e templates (r ∷ rs) id names error rest h = grind (arith, common_steps, first_error_is_the_breach_lem e templates rs, of_rule, rule_steps_agree_lem)
first_error_is_the_breach_lem e templates [] id names error rest h = absurd (cc)
