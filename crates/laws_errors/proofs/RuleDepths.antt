-- Rules: at all depths the function of typing makes what reading makes where nothing is wrong.
use Rattle.std.proofs.Common.{◌≡◌, ℕ, ◌+◌, Bool, true, false, cond, eqb, List, [], ◌∷◌, length, Option, Some, None, refl, sym, ap, arith}
use Rattle.std.proofs.lemmas.Grind.{common_steps}
use Rattle.std.proofs.lemmas.Option.{same_Some}
use Rattle.std.proofs.lemmas.Bool.Decides.{Decides-eqb}
use Rattle.model.specs.lists.Syntax.{Position, Name, PatternTrees, pattern_list, IfLetTree, RuleTree}
use Rattle.model.specs.lists.Tables.{Flags, TermEntry}
use Rattle.model.specs.lists.TermTable.{root_name}
use Rattle.model.specs.rules.Outcome.{then_option}
use Rattle.model.specs.lists.Setting.{Setting, Scope, term_of, declared_flags, on_lhs, expr_type}
use Rattle.model.specs.lists.Typings.{Typing, made_into}
use Rattle.model.specs.lists.Elaborated.{typed_iflet, root_parts, elaborated_pattern, elaborated_parts, elaborated_expr, Sides, sides_of, last_sides, finished_rule, rule_of_sides, with_own_name, may_have_priority}
use Rattle.laws_errors.specs.AllMade.{all_made, iflet_reading, iflets_reading, ends_reading, sides_reading, rule_of_entry}
use Rattle.laws_errors.specs.Steps.{Why, priority, Step, went_on, unless, noting}
use Rattle.laws_errors.specs.PatternSteps.{parts_step, deeper_step}
use Rattle.laws_errors.specs.RuleSteps.{iflet_step, with_iflet, iflets_step, root_step, sides_step, finished_step, declared_step, of_term_step, rooted_step}
use Rattle.laws_errors.specs.StepLaws.{TakesTooMany, AgreesAtDepths, only_read, never_read, too_deep, too_long, never_read_later, TemplatesAreWhole, RuleStepsAgreeAtDepths}
use Rattle.laws_errors.proofs.AgreeingDepths.{same_at_depths, at_once, noted, none_noted, only_through, made, in_order, later_made, eqb-ne, neither, within, both_made}
use Rattle.laws_errors.proofs.PatternDepths.{parts_none, pattern_steps_agree_at_depths_lem, parts_agree_at_depths_lem}
use Rattle.laws_errors.proofs.ExprDepths.{expr_steps_agree_at_depths_lem}

module _ (n d id : ℕ) (r : RuleTree) (t : TermEntry) (flags : Flags) where
  finished_none : (o : Option (Typing Sides)) → o ≡ None → cond (may_have_priority flags r) (finished_rule id r t o) None ≡ None
  finished_none o h = neither (may_have_priority flags r) _ (ap (finished_rule id r t) h)

  past_finished : (o : Option (Typing Sides)) → TakesTooMany n o → TakesTooMany n (cond (may_have_priority flags r) (finished_rule id r t o) None)
  past_finished o past = grind (arith, common_steps, same_Some)

  -- a rule whose sides are made
  finished_agrees : (x : Step Sides) (o : ℕ → Option (Typing Sides)) → AgreesAtDepths n d o x → AgreesAtDepths n d (λ c. cond (may_have_priority flags r) (finished_rule id r t (o c)) None) (finished_step id r t flags x)
  finished_agrees _ o (only_read q s k fits only) = elim (may_have_priority flags r) as (λ b. AgreesAtDepths n d
      (λ c. cond b (finished_rule id r t (o c)) None) (went_on (Some (rule_of_sides id r t q s)) (with_own_name r.name s) k (unless b priority r.at))) [
        | true ↦ only_read _ _ k fits (only_through (finished_rule id r t) d o _ _ refl refl only)
        | false ↦ never_read _ _ k _ [] (λ c. refl)
      ]
  finished_agrees _ o (never_read None s k w ws none) = never_read None s k w ws (λ c. finished_none (o c) (none c))
  finished_agrees _ o (never_read (Some q) s k w ws none) = never_read _ _ k w _ (λ c. finished_none (o c) (none c))
  finished_agrees _ o (too_deep z none) = too_deep z (finished_none (o d) none)
  finished_agrees _ o (too_long z past) = too_long z (λ c. past_finished (o c) (past c))
  finished_agrees _ o (never_read_later l z w ws none) = never_read_later l z w ws (λ c. finished_none (o c) (none c))

module _ (e : Setting) (templates : TemplatesAreWhole e) (flags : Flags) (d : ℕ) where
  -- the expression of an if-let, then its pattern
  pub iflet_agrees : (i : IfLetTree) (n : ℕ) (s : Scope) → AgreesAtDepths n d (λ c. iflet_reading e flags c i s) (iflet_step e flags d i n s)
  iflet_agrees i n s = same_at_depths n d _ _ _
      (λ c. sym (within typed_iflet (elaborated_expr (all_made e) (on_lhs flags) c i.expr None s) (λ a. elaborated_pattern e flags.multi c i.pattern (expr_type a.made) a.scope)))
      (later_made n d _ _ _ (λ c a. made_into (typed_iflet a.made) (elaborated_pattern e flags.multi c i.pattern (expr_type a.made) a.scope)) (expr_steps_agree_at_depths_lem e (on_lhs flags) d i.expr None n s)
      (λ a h. made (n + a.expansions) d (typed_iflet a.made) _ _ (pattern_steps_agree_at_depths_lem e flags.multi templates d i.pattern (expr_type a.made) (n + a.expansions) a.scope)))

  pub iflets_agree : (is : List IfLetTree) (n : ℕ) (s : Scope) → AgreesAtDepths n d (λ c. iflets_reading e flags c is s) (iflets_step e flags d is n s)
  iflets_agree [] n s = at_once n d _ _
  iflets_agree (i ∷ is) n s = in_order n d ◌∷◌ with_iflet (λ x y. refl) _ _ _ (λ c a. iflets_reading e flags c is a.scope) (iflet_agrees i n s) (λ a h. iflets_agree is (n + a.expansions) a.scope)

  counted_agrees : (ps : PatternTrees) (tys : List ℕ) (why : Why) (at : Position) (n : ℕ) (s : Scope) (b : Bool) → eqb (length (pattern_list ps)) (length tys) ≡ b
      → AgreesAtDepths n d (λ c. elaborated_parts e flags.multi c ps tys s) (noting (unless b why at) (parts_step e flags.multi (deeper_step e flags.multi d) ps tys n s))
  counted_agrees ps tys why at n s true h = none_noted n d _ _ (parts_agree_at_depths_lem e flags.multi templates d ps tys n s ((Decides-eqb (length (pattern_list ps)) (length tys)).0 h))
  counted_agrees ps tys why at n s false h = noted n d _ [] _ _ (λ c. parts_none e flags.multi c ps tys s (eqb-ne _ _ h))

  -- the arguments of a rule's root, as many as the types of its term
  pub root_agrees : (r : RuleTree) (x : Name) (t : TermEntry) (n : ℕ) (s : Scope) → AgreesAtDepths n d (λ c. elaborated_parts e flags.multi c (root_parts r.pattern) t.arg_tys s) (root_step e flags d r x t n s)
  root_agrees r x t n s = counted_agrees (root_parts r.pattern) t.arg_tys _ r.at n s (eqb (length (pattern_list (root_parts r.pattern))) (length t.arg_tys)) refl

  -- what is made of all sides can be made by the last
  sides_agree : (r : RuleTree) (x : Name) (t : TermEntry) (n : ℕ) (s : Scope) → AgreesAtDepths n d (λ c. sides_reading e flags c r t s) (sides_step e flags d r x t n s)
  sides_agree r x t n s = same_at_depths n d _ _ _
      (λ c. sym (within sides_of (elaborated_parts e flags.multi c (root_parts r.pattern) t.arg_tys s) (λ a. ends_reading e flags c r t a.scope)))
      (later_made n d _ _ _ (λ c a. made_into (sides_of a.made) (ends_reading e flags c r t a.scope)) (root_agrees r x t n s) (λ a h. same_at_depths (n + a.expansions) d _ _ _
      (λ c. grind (arith, common_steps, within, both_made))
      (later_made (n + a.expansions) d _ _ _ (λ c b. made_into (λ y. sides_of a.made (last_sides b.made y)) (elaborated_expr (all_made e) flags c r.expr (Some t.ret_ty) b.scope))
      (iflets_agree r.iflets (n + a.expansions) a.scope)
      (λ b i. made ((n + a.expansions) + b.expansions) d _ _ _ (expr_steps_agree_at_depths_lem e flags d r.expr (Some t.ret_ty) ((n + a.expansions) + b.expansions) b.scope)))))

module _ (e : Setting) (templates : TemplatesAreWhole e) (d id : ℕ) (r : RuleTree) (n : ℕ) (s : Scope) where
  of_flags : (x : Name) (t : TermEntry) (o : Option Flags) → AgreesAtDepths n d (λ c. then_option o (λ flags. rule_of_entry e c id r t flags s)) (declared_step e d id r x t n s o)
  of_flags x t None = never_read None s 0 _ [] (λ c. refl)
  of_flags x t (Some flags) = finished_agrees n d id r t flags _ _ (sides_agree e templates flags d r x t n s)

  of_terms : (x : Name) (o : Option TermEntry) → AgreesAtDepths n d (λ c. then_option o (λ t. then_option (declared_flags t.kind) (λ flags. rule_of_entry e c id r t flags s))) (of_term_step e d id r x n s o)
  of_terms x None = never_read None s 0 _ [] (λ c. refl)
  of_terms x (Some t) = of_flags x t (declared_flags t.kind)

  of_roots : (o : Option Name)
      → AgreesAtDepths n d (λ c. then_option o (λ x. then_option (term_of e s x.text) (λ t. then_option (declared_flags t.kind) (λ flags. rule_of_entry e c id r t flags s)))) (rooted_step e d id r n s o)
  of_roots None = never_read None s 0 _ [] (λ c. refl)
  of_roots (Some x) = of_terms x (term_of e s x.text)

pub rule_steps_agree_at_depths_lem : RuleStepsAgreeAtDepths
rule_steps_agree_at_depths_lem e templates d id r n s = of_roots e templates d id r n s (root_name r.pattern)
