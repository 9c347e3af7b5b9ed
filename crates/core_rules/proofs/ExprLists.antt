-- Lists of expressions, read one after another.
use Rattle.model.specs.rules.Typed.{TypedExprs, no_typed_expr, typed_expr_and}

-- expressions after expressions
abbrev pub appended : TypedExprs → TypedExprs → TypedExprs
appended no_typed_expr qs = qs
appended (typed_expr_and p ps) qs = typed_expr_and p (appended ps qs)
