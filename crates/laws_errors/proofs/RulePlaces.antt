-- Where what is wrong with a rule stands.
use Rattle.std.proofs.Common.{ℕ, ◌+◌, eqb, List, [], ◌∷◌, length, Option, Some, None, arith}
use Rattle.std.proofs.lemmas.Grind.{common_steps}
use Rattle.std.specs.Prelude.{Contains}
use Rattle.model.specs.lists.Syntax.{Position, Name, PatternTree, pattern_list, IfLetTree, RuleTree}
use Rattle.model.specs.lists.Tables.{Flags, TermEntry}
use Rattle.model.specs.lists.TermTable.{root_name}
use Rattle.model.specs.lists.Setting.{Setting, Scope, on_lhs, expr_type}
use Rattle.model.specs.lists.Elaborated.{typed_iflet, root_parts, Sides}
use Rattle.laws_errors.specs.Steps.{argument_count, Step, made_step, then_made}
use Rattle.laws_errors.specs.PatternSteps.{pattern_step, parts_step, deeper_step}
use Rattle.laws_errors.specs.ExprSteps.{expr_step, deeper_expr_step}
use Rattle.laws_errors.specs.RuleSteps.{iflet_step, with_iflet, iflets_step, root_step, sides_step, finished_step, declared_step, of_term_step, rooted_step}
use Rattle.laws_errors.specs.PlaceLaws.{StandsAt, StandAt, ExprStandsAt, IfLetStandsAt, IfLetsStandAt, RuleStandsAt, AreAt, wrong_of, TemplatesStandAt, RuleErrorsArePlaced}
use Rattle.laws_errors.proofs.PlacedErrors as patterns
use Rattle.laws_errors.proofs.ExprPlaces as exprs

module _ (P : Position → Type 0) (e : Setting) (templates : TemplatesStandAt e P) where
  root_stands : (p : PatternTree) → StandsAt P p → StandAt P (root_parts p)
  root_stands p h = grind (arith, common_steps)

  finished_at : (id : ℕ) (r : RuleTree) (t : TermEntry) (flags : Flags) (x : Step Sides) → P r.at → AreAt P (wrong_of x) → AreAt P (wrong_of (finished_step id r t flags x))
  finished_at id r t flags x here h = grind (arith, common_steps, patterns.both_at, patterns.checked_at)

  module _ (flags : Flags) (d : ℕ) where
    expr_at : (flags : Flags) (x : _) (ty : Option ℕ) (n : ℕ) (s : Scope) → ExprStandsAt P x → AreAt P (wrong_of (expr_step e flags (deeper_expr_step e flags d) x ty n s))
    expr_at flags x ty n s h = exprs.placed P e flags d (exprs.deeper_placed P e flags d) x ty n s h

    iflet_at : (i : IfLetTree) (n : ℕ) (s : Scope) → IfLetStandsAt P i → AreAt P (wrong_of (iflet_step e flags d i n s))
    iflet_at i n s h = exprs.then_made_at P (expr_step e (on_lhs flags) (deeper_expr_step e (on_lhs flags) d) i.expr None n s)
        (λ x t k. made_step (typed_iflet x) (pattern_step e flags.multi (deeper_step e flags.multi d) i.pattern (expr_type x) (n + k) t))
        (expr_at (on_lhs flags) i.expr None n s h.1)
        (λ x t k. patterns.made_at P (typed_iflet x) (pattern_step e flags.multi (deeper_step e flags.multi d) i.pattern (expr_type x) (n + k) t)
        (patterns.placed P e flags.multi templates d (patterns.deeper_placed P e flags.multi templates d) i.pattern (expr_type x) (n + k) t h.0))

    iflets_at : (is : List IfLetTree) (n : ℕ) (s : Scope) → IfLetsStandAt P is → AreAt P (wrong_of (iflets_step e flags d is n s))
    iflets_at [] n s h = tt
    iflets_at (i ∷ is) n s h = patterns.in_order_at P with_iflet (iflet_step e flags d i n s) (λ m t k. iflets_step e flags d is (n + k) t) (iflet_at i n s h.0) (λ m t k. iflets_at is (n + k) t h.1)

    root_at : (r : RuleTree) (x : Name) (t : TermEntry) (n : ℕ) (s : Scope) → RuleStandsAt P r → AreAt P (wrong_of (root_step e flags d r x t n s))
    root_at r x t n s h = patterns.checked_step_at P (eqb (length (pattern_list (root_parts r.pattern))) (length t.arg_tys)) (argument_count x.text (length (pattern_list (root_parts r.pattern))) (length t.arg_tys)) r.at
        (parts_step e flags.multi (deeper_step e flags.multi d) (root_parts r.pattern) t.arg_tys n s) h.rule
        (patterns.parts_placed P e flags.multi templates d (patterns.deeper_placed P e flags.multi templates d) (root_parts r.pattern) t.arg_tys n s (root_stands r.pattern h.pattern))

    sides_at : (r : RuleTree) (x : Name) (t : TermEntry) (n : ℕ) (s : Scope) → RuleStandsAt P r → AreAt P (wrong_of (sides_step e flags d r x t n s))
    sides_at r x t n s h = exprs.then_made_at P (root_step e flags d r x t n s)
        (λ args u k. then_made (iflets_step e flags d r.iflets (n + k) u) (λ iflets v j. made_step (λ rhs. (args, (iflets, rhs))) (expr_step e flags (deeper_expr_step e flags d) r.expr (Some t.ret_ty) ((n + k) + j) v)))
        (root_at r x t n s h)
        (λ args u k. exprs.then_made_at P (iflets_step e flags d r.iflets (n + k) u) (λ iflets v j. made_step (λ rhs. (args, (iflets, rhs))) (expr_step e flags (deeper_expr_step e flags d) r.expr (Some t.ret_ty) ((n + k) + j) v))
        (iflets_at r.iflets (n + k) u h.iflets)
        (λ iflets v j. patterns.made_at P (λ rhs. (args, (iflets, rhs))) (expr_step e flags (deeper_expr_step e flags d) r.expr (Some t.ret_ty) ((n + k) + j) v) (expr_at flags r.expr (Some t.ret_ty) ((n + k) + j) v h.expr)))

  module _ (d id : ℕ) (r : RuleTree) (n : ℕ) (s : Scope) (h : RuleStandsAt P r) where
    of_flags : (x : Name) (t : TermEntry) (o : Option Flags) → AreAt P (wrong_of (declared_step e d id r x t n s o))
    of_flags x t None = (h.rule, tt)
    of_flags x t (Some flags) = finished_at id r t flags (sides_step e flags d r x t n s) h.rule (sides_at flags d r x t n s h)

    of_terms : (x : Name) (o : Option TermEntry) → AreAt P (wrong_of (of_term_step e d id r x n s o))
    of_terms x o = grind (arith, common_steps, of_flags)

    of_roots : (o : Option Name) → AreAt P (wrong_of (rooted_step e d id r n s o))
    of_roots o = grind (arith, common_steps, of_terms)

pub rule_errors_are_placed_lem : RuleErrorsArePlaced
rule_errors_are_placed_lem ps e templates d id r n s h = of_roots (Contains ps) e templates d id r n s h (root_name r.pattern)
