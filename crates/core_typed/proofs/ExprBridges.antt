-- What the view of an expression is, where its parts lie in a `Vec`.
use Rattle.std.proofs.Common.{◌≡◌, refl, ap, ◌∙◌, Vec, Box}
use Rattle.std.specs.declared.alloc.Global.{Global}
use Rattle.core_types.specs.declared.ids.TypeId.{TypeId}
use Rattle.core_types.specs.declared.ids.TermId.{TermId}
use Rattle.core_types.specs.declared.ids.VarId.{VarId}
use Rattle.model.specs.rules.Typed.{make_term, make_let, typed_expr_and, typed_let_and}
use Rattle.core_typed.specs.declared.exprs.Expr.{Expr, Term, Let, Row_of-Expr, end_of-Expr, more_of-Expr, items-the_row-Expr, Row_of-Expr-Let-1-4, end_of-Expr-Let-1-4, more_of-Expr-Let-1-4, items-the_row-Expr-Let-1-4}
use Rattle.core_typed.specs.declared.exprs.Expr.TheBlock.{hidden-the_row-Expr-0, items_hidden-the_row-Expr-0, hidden-the_row-Expr-Let-1-4-1, items_hidden-the_row-Expr-Let-1-4-1}
use Rattle.core_typed.specs.ExprViews.{expr_view, row_exprs, row_lets, expr_views, expr_parts, let_views, let_parts}

row_exprs-items : {m : _} (r : Row_of-Expr m) → row_exprs r ≡ expr_parts (expr_views (items-the_row-Expr m r))
row_exprs-items end_of-Expr = refl
row_exprs-items (more_of-Expr e es) = ap (typed_expr_and (expr_view e)) (row_exprs-items es)

row_lets-items : {m : _} (r : Row_of-Expr-Let-1-4 m) → row_lets r ≡ let_parts (let_views (items-the_row-Expr-Let-1-4 m r))
row_lets-items end_of-Expr-Let-1-4 = refl
row_lets-items (more_of-Expr-Let-1-4 x ty b e ds) = ap (typed_let_and x.0 ty.0 (expr_view e)) (row_lets-items ds)

pub row_exprs-hidden : (v : Vec Expr Global) → row_exprs (hidden-the_row-Expr-0 v) ≡ expr_parts (expr_views v.items)
row_exprs-hidden v = row_exprs-items (hidden-the_row-Expr-0 v) ∙ ap (λ es. expr_parts (expr_views es)) (items_hidden-the_row-Expr-0 v)

pub row_lets-hidden : (v : Vec (VarId × TypeId × Box Expr Global) Global) → row_lets (hidden-the_row-Expr-Let-1-4-1 v) ≡ let_parts (let_views v.items)
row_lets-hidden v = row_lets-items (hidden-the_row-Expr-Let-1-4-1 v) ∙ ap (λ ds. let_parts (let_views ds)) (items_hidden-the_row-Expr-Let-1-4-1 v)

pub view-Term : (ty : TypeId) (t : TermId) (v : Vec Expr Global) → expr_view (Term ty t v) ≡ make_term ty.0 t.0 (expr_parts (expr_views v.items))
view-Term ty t v = ap (make_term ty.0 t.0) (row_exprs-hidden v)

pub view-Let : (ty : TypeId) (v : Vec (VarId × TypeId × Box Expr Global) Global) (body : Box Expr Global) → expr_view (Let ty v body) ≡ make_let ty.0 (let_parts (let_views v.items)) (expr_view body.value)
view-Let ty v body = ap (λ ds. make_let ty.0 ds (expr_view body.value)) (row_lets-hidden v)

-- for code that makes expressions
pub ruleset expr_steps = (row_exprs-hidden, row_lets-hidden, view-Term, view-Let)
