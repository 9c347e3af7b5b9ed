-- The terms that expressions call: where each is such, each is what follows.
use Rattle.std.proofs.Common.{ℕ}
use Rattle.model.specs.rules.Typed.{TypedExpr, make_term, make_let, TypedExprs, no_typed_expr, typed_expr_and, TypedLets, no_typed_let, typed_let_and}
use Rattle.model.specs.rules.CalledTerms.{CallsAlone, CallAlone, LetsCallAlone}

module _ (P Q : ℕ → Type 0) (f : (t : ℕ) → P t → Q t) where
  mutual
    pub calls_such : (x : TypedExpr) → CallsAlone P x → CallsAlone Q x
    calls_such (make_term ty t args) h = (f t h.0, call_such args h.1)
    calls_such (make_let ty defs body) h = (lets_call_such defs h.0, calls_such body h.1)
    calls_such x h = tt

    call_such : (xs : TypedExprs) → CallAlone P xs → CallAlone Q xs
    call_such no_typed_expr h = tt
    call_such (typed_expr_and x rest) h = (calls_such x h.0, call_such rest h.1)

    lets_call_such : (ds : TypedLets) → LetsCallAlone P ds → LetsCallAlone Q ds
    lets_call_such no_typed_let h = tt
    lets_call_such (typed_let_and x ty value rest) h = (calls_such value h.0, lets_call_such rest h.1)
