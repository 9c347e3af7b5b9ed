-- What typed expressions say, without where their parts lie in memory.
use Rattle.std.specs.Prelude.{ℕ, List, [], ◌∷◌, map, Box}
use Rattle.std.specs.declared.alloc.Global.{Global}
use Rattle.core_types.specs.declared.ids.VarId.{VarId}
use Rattle.core_types.specs.declared.ids.TypeId.{TypeId}
use Rattle.model.specs.rules.Typed.{TypedExpr, make_term, make_var, make_bool, make_int, make_prim, make_let, TypedExprs, no_typed_expr, typed_expr_and, TypedLets, no_typed_let, typed_let_and}
use Rattle.core_typed.specs.declared.exprs.Expr.{Expr, Term', Var, ConstBool, ConstInt, ConstPrim, Let', Row_of-Expr, end_of-Expr, more_of-Expr, Row_of-Expr-Let-1-4, end_of-Expr-Let-1-4, more_of-Expr-Let-1-4}

abbrev mutual
  pub expr_view : Expr → TypedExpr
  expr_view (Term' ty t shape es) = make_term ty.0 t.0 (row_exprs es)
  expr_view (Var ty x) = make_var ty.0 x.0
  expr_view (ConstBool ty b) = make_bool ty.0 b
  expr_view (ConstInt ty z) = make_int ty.0 z
  expr_view (ConstPrim ty s) = make_prim ty.0 s.0
  expr_view (Let' ty shape ds b e) = make_let ty.0 (row_lets ds) (expr_view e)

  pub row_exprs : {m : _} → Row_of-Expr m → TypedExprs
  row_exprs end_of-Expr = no_typed_expr
  row_exprs (more_of-Expr e es) = typed_expr_and (expr_view e) (row_exprs es)

  pub row_lets : {m : _} → Row_of-Expr-Let-1-4 m → TypedLets
  row_lets end_of-Expr-Let-1-4 = no_typed_let
  row_lets (more_of-Expr-Let-1-4 x ty b e ds) = typed_let_and x.0 ty.0 (expr_view e) (row_lets ds)

-- the expressions of a list
abbrev pub expr_views : List Expr → List TypedExpr
expr_views es = map expr_view es

-- expressions as the arguments of an expression
abbrev pub expr_parts : List TypedExpr → TypedExprs
expr_parts [] = no_typed_expr
expr_parts (e ∷ es) = typed_expr_and e (expr_parts es)

-- one of a let's definitions: variable, its type, its value
abbrev pub let_view : VarId × TypeId × Box Expr Global → ℕ × ℕ × TypedExpr
let_view d = (d.0.0, d.1.0, expr_view d.2.value)

abbrev pub let_views : List (VarId × TypeId × Box Expr Global) → List (ℕ × ℕ × TypedExpr)
let_views ds = map let_view ds

-- definitions as those of a let
abbrev pub let_parts : List (ℕ × ℕ × TypedExpr) → TypedLets
let_parts [] = no_typed_let
let_parts (d ∷ ds) = typed_let_and d.0 d.1 d.2 (let_parts ds)
