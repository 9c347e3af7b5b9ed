use Rattle.std.proofs.Common.{IsTrue, drop, ◌≡◌, length}
use Rattle.model.specs.visits.ExprRuns.{InputsRun, LetsRun}
use Rattle.core_typed.specs.ExprViews.{expr_view, expr_views, expr_parts, let_views, let_parts}
use Rattle.model.specs.lists.Visitable.{are_visitable_args, are_visitable_lets}
use Rattle.core_typed.specs.VisitAnswers.{type_numbers, typed_inputs}
use Rattle.model.specs.visits.Runs.{bound_vars}
use Rattle.core_typed.specs.VisitorSteps.{expr_steps, no_memory}
use Rattle.core_typed.proofs.ExprRunSteps.{after_these}
use Rattle.core_typed.proofs.VisitSizes.{expr_size, exprs_size, lets_size}
use Rattle.core_typed.proofs.+visit_expr.Given as goal

abbrev pub decreases-exprs::Expr::visit : goal.decreases-exprs::Expr::visit
decreases-exprs::Expr::visit g l = expr_size (expr_view l.self.now)

abbrev pub decreases-expr_visits::visit_inputs : goal.decreases-expr_visits::visit_inputs
decreases-expr_visits::visit_inputs g l = exprs_size (expr_parts (expr_views l.args.now))

abbrev pub decreases-expr_visits::visit_lets : goal.decreases-expr_visits::visit_lets
decreases-expr_visits::visit_lets g l = lets_size (let_parts (let_views l.bindings.now))

-- what the rest may lead to, the whole may, with what was answered so far before it; and the rest can be visited
abbrev pub invariant-expr_visits::visit_inputs-loop-i : goal.invariant-expr_visits::visit_inputs-loop-i
invariant-expr_visits::visit_inputs-loop-i g l =
    ((r : _) (t : _) → InputsRun no_memory (expr_steps g.V.ExprVisitor) (g.E.UsedTerms.term_entries l.termenv) (expr_parts (expr_views (drop l.i l.args))) (type_numbers (drop l.i l.tys)) l.vars l.visitor r t →
    InputsRun no_memory (expr_steps g.V.ExprVisitor) (g.E.UsedTerms.term_entries l.termenv) (expr_parts (expr_views l.args)) (type_numbers l.tys) l.vars l.fn.visitor (after_these (typed_inputs l.inputs.items) r) t)
    × (IsTrue (are_visitable_args (g.E.UsedTerms.term_entries l.termenv) (expr_parts (expr_views (drop l.i l.args))) (bound_vars l.vars))
    × (length l.inputs.items ≡ l.i))

-- what the rest may lead to, the whole may; and the rest can be visited
abbrev pub invariant-expr_visits::visit_lets-loop-binding : goal.invariant-expr_visits::visit_lets-loop-binding
invariant-expr_visits::visit_lets-loop-binding g l =
    ((r : _) (t : _) → LetsRun no_memory (expr_steps g.V.ExprVisitor) (g.E.UsedTerms.term_entries l.termenv) (let_parts (let_views (drop l.binding-index l.bindings))) l.vars l.visitor r t →
    LetsRun no_memory (expr_steps g.V.ExprVisitor) (g.E.UsedTerms.term_entries l.termenv) (let_parts (let_views l.bindings)) l.fn.vars l.fn.visitor r t)
    × IsTrue (are_visitable_lets (g.E.UsedTerms.term_entries l.termenv) (let_parts (let_views (drop l.binding-index l.bindings))) (bound_vars l.vars))
