-- Which terms does an expression call?
use Rattle.std.specs.Prelude.{ℕ}
use Rattle.model.specs.rules.Typed.{TypedExpr, make_term, make_var, make_bool, make_int, make_prim, make_let, TypedExprs, no_typed_expr, typed_expr_and, TypedLets, no_typed_let, typed_let_and}

-- each term that an expression calls is such
abbrev mutual
  pub CallsAlone : (ℕ → Type 0) → TypedExpr → Type 0
  CallsAlone P (make_term ty t args) = P t × CallAlone P args
  CallsAlone P (make_var ty x) = Unit {0}
  CallsAlone P (make_bool ty b) = Unit {0}
  CallsAlone P (make_int ty z) = Unit {0}
  CallsAlone P (make_prim ty name) = Unit {0}
  CallsAlone P (make_let ty defs body) = LetsCallAlone P defs × CallsAlone P body

  pub CallAlone : (ℕ → Type 0) → TypedExprs → Type 0
  CallAlone P no_typed_expr = Unit {0}
  CallAlone P (typed_expr_and x rest) = CallsAlone P x × CallAlone P rest

  pub LetsCallAlone : (ℕ → Type 0) → TypedLets → Type 0
  LetsCallAlone P no_typed_let = Unit {0}
  LetsCallAlone P (typed_let_and x ty value rest) = CallsAlone P value × LetsCallAlone P rest
