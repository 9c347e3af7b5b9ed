-- What the calls on expressions give, over the model's trees.
use Rattle.std.specs.Prelude.{List, [], ◌∷◌, ◌++◌}
use Rattle.model.specs.lists.Syntax.{Position, Name, ExprTree, term_expr, var_expr, bool_expr, int_expr, prim_expr, let_expr, ExprTrees, no_expr, expr_and, LetTrees, no_let, let_and}

abbrev pub expr_position : ExprTree → Position
expr_position (term_expr s es p) = p
expr_position (var_expr v p) = p
expr_position (bool_expr b p) = p
expr_position (int_expr n p) = p
expr_position (prim_expr v p) = p
expr_position (let_expr ds e p) = p

-- the terms of an expression, an outer one before its parts, a let's definitions before its body
abbrev mutual
  pub terms_of_expr : ExprTree → List (Position × Name)
  terms_of_expr (term_expr s es p) = (p, s) ∷ terms_of_exprs es
  terms_of_expr (let_expr ds e p) = terms_of_lets ds ++ terms_of_expr e
  terms_of_expr (var_expr v p) = []
  terms_of_expr (bool_expr b p) = []
  terms_of_expr (int_expr n p) = []
  terms_of_expr (prim_expr v p) = []

  pub terms_of_exprs : ExprTrees → List (Position × Name)
  terms_of_exprs no_expr = []
  terms_of_exprs (expr_and e es) = terms_of_expr e ++ terms_of_exprs es

  pub terms_of_lets : LetTrees → List (Position × Name)
  terms_of_lets no_let = []
  terms_of_lets (let_and v t e p ds) = terms_of_expr e ++ terms_of_lets ds
