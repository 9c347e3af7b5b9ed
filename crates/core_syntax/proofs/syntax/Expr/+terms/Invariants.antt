use Rattle.std.proofs.Common.{◌++◌, map, drop}
use Rattle.core_syntax.specs.Expressions.{terms_of_expr, terms_of_exprs, terms_of_lets}
use Rattle.core_syntax.specs.Places.{term_view, HoldsAllBut}
use Rattle.core_syntax.specs.SyntaxViews.{expr_view, expr_views, let_views}
use Rattle.core_syntax.proofs.syntax.Expr.+terms.Given as goal

abbrev pub invariant-loop-arg : goal.invariant-loop-arg
invariant-loop-arg l =
    HoldsAllBut (map (λ t. term_view t.0 t.1.now) l.fn.out.items) (terms_of_expr (expr_view l.self)) (terms_of_exprs (expr_views (drop l.arg-index l.arg-items)))
    (map (λ t. term_view t.0 t.1.now) l.out.items)

abbrev pub invariant-loop-def : goal.invariant-loop-def
invariant-loop-def l =
    HoldsAllBut (map (λ t. term_view t.0 t.1.now) l.fn.out.items) (terms_of_expr (expr_view l.self))
    (terms_of_lets (let_views (drop l.def-index l.def-items)) ++ terms_of_expr (expr_view l.body.value))
    (map (λ t. term_view t.0 t.1.now) l.out.items)
