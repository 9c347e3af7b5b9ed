-- Which limit stops the steps of a rule first.
use Rattle.std.proofs.Common.{◌≡◌, ℕ, ◌+◌, Bool, cond, eqb, List, [], ◌∷◌, length, Option, Some, None, refl, ap, ◌∙◌, arith}
use Rattle.std.proofs.lemmas.Grind.{common_steps}
use Rattle.model.specs.lists.Syntax.{Position, Name, PatternTrees, pattern_list, IfLetTree, RuleTree}
use Rattle.model.specs.lists.Tables.{Flags, TermEntry}
use Rattle.model.specs.lists.TermTable.{root_name}
use Rattle.model.specs.rules.Outcome.{then_option}
use Rattle.model.specs.lists.Setting.{Setting, Scope, term_of, declared_flags, on_lhs, expr_type}
use Rattle.model.specs.lists.Elaborated.{deeper_pattern, typed_iflet, root_parts, elaborated_parts, elaborated_expr, Sides}
use Rattle.laws_errors.specs.AllMade.{all_made, iflet_reading, iflets_reading}
use Rattle.laws_errors.specs.Steps.{Why, Step, unless, noting, last_made}
use Rattle.laws_errors.specs.PatternSteps.{parts_step, deeper_step}
use Rattle.laws_errors.specs.RuleSteps.{iflet_step, with_iflet, iflets_step, root_step, sides_step, finished_step, declared_step, of_term_step, rooted_step}
use Rattle.laws_errors.specs.ReachedLimits.{or_after, parts_limit, deeper_pattern_limit, pattern_limits, expr_limits, iflet_limits, iflets_limits, root_limits, ends_limits, sides_limits}
use Rattle.laws_errors.specs.StepLaws.{TemplatesAreWhole}
use Rattle.laws_errors.specs.LimitLaws.{first_limit, RuleLimitsAreFirst}
use Rattle.laws_errors.proofs.ExprDepths.{expr_steps_agree_at_depths_lem}
use Rattle.laws_errors.proofs.ExprLimits.{expr_limits_are_first_lem}
use Rattle.laws_errors.proofs.FirstLimits.{first_made, first_at_depths, pattern_limits_are_first_lem, parts_limits_are_first_lem}
use Rattle.laws_errors.proofs.RuleDepths.{iflet_agrees, iflets_agree, root_agrees}

first_finished : (id : ℕ) (r : RuleTree) (t : TermEntry) (flags : Flags) (x : Step Sides) → first_limit (finished_step id r t flags x) ≡ first_limit x
first_finished id r t flags x = grind (arith, common_steps)

module _ (e : Setting) (templates : TemplatesAreWhole e) (flags : Flags) (d : ℕ) where
  iflet_first : (i : IfLetTree) (n : ℕ) (s : Scope) → first_limit (iflet_step e flags d i n s) ≡ iflet_limits e flags d i n s
  iflet_first i n s =
      first_at_depths n d last_made _ (λ c. elaborated_expr (all_made e) (on_lhs flags) c i.expr None s) _ _ (expr_steps_agree_at_depths_lem e (on_lhs flags) d i.expr None n s)
      (λ a. first_made (typed_iflet a.made) _ ∙ pattern_limits_are_first_lem e flags.multi templates d i.pattern (expr_type a.made) (n + a.expansions) a.scope)
      ∙ ap (λ l. or_after l (elaborated_expr (all_made e) (on_lhs flags) d i.expr None s) (λ a. pattern_limits e flags.multi d i.pattern (expr_type a.made) (n + a.expansions) a.scope))
      (expr_limits_are_first_lem e (on_lhs flags) d i.expr None n s)

  iflets_first : (is : List IfLetTree) (n : ℕ) (s : Scope) → first_limit (iflets_step e flags d is n s) ≡ iflets_limits e flags d is n s
  iflets_first [] n s = refl
  iflets_first (i ∷ is) n s =
      first_at_depths n d with_iflet _ (λ c. iflet_reading e flags c i s) _ _ (iflet_agrees e templates flags d i n s) (λ a. iflets_first is (n + a.expansions) a.scope)
      ∙ ap (λ l. or_after l (iflet_reading e flags d i s) (λ a. iflets_limits e flags d is (n + a.expansions) a.scope)) (iflet_first i n s)

  counted_first : (ps : PatternTrees) (tys : List ℕ) (why : Why) (at : Position) (n : ℕ) (s : Scope) → (b : Bool) → eqb (length (pattern_list ps)) (length tys) ≡ b
      → first_limit (noting (unless b why at) (parts_step e flags.multi (deeper_step e flags.multi d) ps tys n s)) ≡ cond b (first_limit (parts_step e flags.multi (deeper_step e flags.multi d) ps tys n s)) None
  counted_first ps tys why at n s h i = grind (arith, common_steps)

  counted_limit : (ps : PatternTrees) (tys : List ℕ) (n : ℕ) (s : Scope) → (b : Bool) → eqb (length (pattern_list ps)) (length tys) ≡ b
      → cond b (first_limit (parts_step e flags.multi (deeper_step e flags.multi d) ps tys n s)) None ≡ cond b (parts_limit e flags.multi (deeper_pattern e flags.multi d) (deeper_pattern_limit e flags.multi d) ps tys n s) None
  counted_limit ps tys n s b h = grind (arith, common_steps, parts_limits_are_first_lem e flags.multi templates d ps tys n s)

  root_first : (r : RuleTree) (x : Name) (t : TermEntry) (n : ℕ) (s : Scope) → first_limit (root_step e flags d r x t n s) ≡ root_limits e flags.multi d (root_parts r.pattern) t.arg_tys n s
  root_first r x t n s = grind (arith, common_steps, counted_first, counted_limit)

  sides_first : (r : RuleTree) (x : Name) (t : TermEntry) (n : ℕ) (s : Scope) → first_limit (sides_step e flags d r x t n s) ≡ sides_limits e flags d r t n s
  sides_first r x t n s =
      first_at_depths n d last_made _ (λ c. elaborated_parts e flags.multi c (root_parts r.pattern) t.arg_tys s) _ (λ a. ends_limits e flags d r t (n + a.expansions) a.scope) (root_agrees e templates flags d r x t n s) (λ a.
      first_at_depths (n + a.expansions) d last_made _ (λ c. iflets_reading e flags c r.iflets a.scope) _ (λ b. expr_limits e flags d r.expr (Some t.ret_ty) ((n + a.expansions) + b.expansions) b.scope) (iflets_agree e templates flags d r.iflets (n + a.expansions) a.scope)
      (λ b. first_made _ _ ∙ expr_limits_are_first_lem e flags d r.expr (Some t.ret_ty) ((n + a.expansions) + b.expansions) b.scope)
      ∙ ap (λ l. or_after l (iflets_reading e flags d r.iflets a.scope) (λ b. expr_limits e flags d r.expr (Some t.ret_ty) ((n + a.expansions) + b.expansions) b.scope)) (iflets_first r.iflets (n + a.expansions) a.scope))
      ∙ ap (λ l. or_after l (elaborated_parts e flags.multi d (root_parts r.pattern) t.arg_tys s) (λ a. ends_limits e flags d r t (n + a.expansions) a.scope)) (root_first r x t n s)

module _ (e : Setting) (templates : TemplatesAreWhole e) (d id : ℕ) (r : RuleTree) (n : ℕ) (s : Scope) where
  of_flags : (x : Name) (t : TermEntry) (o : Option Flags) → first_limit (declared_step e d id r x t n s o) ≡ then_option o (λ flags. sides_limits e flags d r t n s)
  of_flags x t None = refl
  of_flags x t (Some flags) = first_finished id r t flags _ ∙ sides_first e templates flags d r x t n s

  of_terms : (x : Name) (o : Option TermEntry) → first_limit (of_term_step e d id r x n s o) ≡ then_option o (λ t. then_option (declared_flags t.kind) (λ flags. sides_limits e flags d r t n s))
  of_terms x o = grind (arith, common_steps, of_flags)

  of_roots : (o : Option Name) → first_limit (rooted_step e d id r n s o) ≡ then_option o (λ x. then_option (term_of e s x.text) (λ t. then_option (declared_flags t.kind) (λ flags. sides_limits e flags d r t n s)))
  of_roots o = grind (arith, common_steps, of_terms)

pub rule_limits_are_first_lem : RuleLimitsAreFirst
rule_limits_are_first_lem e templates d id r n s = of_roots e templates d id r n s (root_name r.pattern)
