use Rattle.std.proofs.Common.{◌≡◌, drop}
use Rattle.model.specs.rules.Matching.{pure_lets, pure_values}
use Rattle.core_typed.specs.ExprViews.{expr_parts, expr_views, let_parts, let_views}
use Rattle.run_terms.proofs.EnvSteps.{after}
use Rattle.model.specs.rules.Meaning.{total}
use Rattle.run_terms.specs.SourceViews.{of_terms, vars_view}
use Rattle.run_terms.proofs.exprs.+pure.Given as goal

abbrev pub invariant-pure_values-loop-expr : goal.invariant-pure_values-loop-expr
invariant-pure_values-loop-expr g l =
    let program = of_terms l.source.terms.now in
    let m = total (g.E.Externs.functions l.source.externs.now) in
    after l.out.items (pure_values program m (expr_parts (expr_views (drop l.expr-index l.exprs))) (vars_view l.vars)) ≡ pure_values program m (expr_parts (expr_views l.exprs)) (vars_view l.vars)

abbrev pub invariant-pure_lets-loop-binding : goal.invariant-pure_lets-loop-binding
invariant-pure_lets-loop-binding g l =
    let program = of_terms l.source.terms.now in
    let m = total (g.E.Externs.functions l.source.externs.now) in
    pure_lets program m (let_parts (let_views (drop l.binding-index l.bindings))) (vars_view l.vars.items) ≡ pure_lets program m (let_parts (let_views l.bindings)) (vars_view l.fn.vars.items)
