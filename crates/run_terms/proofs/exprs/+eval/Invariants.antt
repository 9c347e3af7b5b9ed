use Rattle.std.proofs.Common.{◌≡◌, drop, option_map}
use Rattle.model.specs.rules.RightSide.{eval_all, eval_lets}
use Rattle.core_typed.specs.ExprViews.{expr_parts, expr_views, let_parts, let_views}
use Rattle.run_terms.specs.RunViews.{call_views}
use Rattle.model.specs.rules.Meaning.{total}
use Rattle.run_terms.specs.SourceViews.{of_terms, vars_view}
use Rattle.run_terms.proofs.ExprSteps.{ahead}
use Rattle.run_terms.proofs.exprs.+eval.Given as goal

abbrev pub invariant-eval_all-loop-expr : goal.invariant-eval_all-loop-expr
invariant-eval_all-loop-expr g l =
    let program = of_terms l.source.terms.now in
    let m = total (g.E.Externs.functions l.source.externs.now) in
    ahead (option_map (λ v. v.items) l.given) (eval_all program m (expr_parts (expr_views (drop l.expr-index l.exprs))) (vars_view l.vars) (call_views l.calls.items))
    ≡ eval_all program m (expr_parts (expr_views l.exprs)) (vars_view l.vars) (call_views l.fn.calls.items)

abbrev pub invariant-eval_lets-loop-binding : goal.invariant-eval_lets-loop-binding
invariant-eval_lets-loop-binding g l =
    let program = of_terms l.source.terms.now in
    let m = total (g.E.Externs.functions l.source.externs.now) in
    eval_lets program m (let_parts (let_views (drop l.binding-index l.bindings))) (vars_view l.vars.items) (call_views l.calls.items)
    ≡ eval_lets program m (let_parts (let_views l.bindings)) (vars_view l.fn.vars.items) (call_views l.fn.calls.items)
