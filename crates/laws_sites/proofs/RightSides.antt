-- What expressions that call no multi term, and expressions that make no impure call, do to a visit.
use Rattle.std.proofs.Common.{◌≡◌, ℕ, false, [], IsTrue, arith}
use Rattle.std.proofs.lemmas.Grind.{common_steps}
use Rattle.model.specs.rules.Program.{Program, Kind, kind, flags_of, is_multi}
use Rattle.model.specs.sites.Sites.{SiteTerm}
use Rattle.model.specs.rules.Typed.{TypedExpr, make_term, make_let, TypedExprs, no_typed_expr, typed_expr_and, TypedLets, no_typed_let, typed_let_and}
use Rattle.model.specs.visits.Demands.{Visit, ValuedAll, visit_term, visit_expr, visit_exprs, visit_lets}
use Rattle.model.proofs.Elements.{In}
use Rattle.model.specs.sites.DemandedGates.{IsPureExpr, ArePureExprs, ArePureLets}
use Rattle.model.specs.rules.CalledTerms.{CallsAlone, CallAlone, LetsCallAlone}

-- 1. calls of multi terms
-- no call of this term gives several answers
abbrev pub IsSingle : Program → ℕ → Type 0
IsSingle p t = is_multi p t ≡ false

-- a visit goes over no more than an earlier one
abbrev GoesOverNoMore : Visit → Visit → Type 0
GoesOverNoMore v w = (u : SiteTerm) → In w.demands.iterators u → In v.demands.iterators u

module _ (p : Program) where
  mutual
    pub expr_single : (x : TypedExpr) (v : Visit) → CallsAlone (IsSingle p) x → GoesOverNoMore v (visit_expr p x v).visit
    expr_single (make_term ty t args) v h = λ u i. exprs_single args v h.1 u (grind (arith, common_steps))
    expr_single (make_let ty defs body) v h = λ u i. lets_single defs v h.0 u (expr_single body (visit_lets p defs v) h.1 u i)
    expr_single _ v h = λ u i. i

    exprs_single : (xs : TypedExprs) (v : Visit) → CallAlone (IsSingle p) xs → GoesOverNoMore v (visit_exprs p xs v).visit
    exprs_single no_typed_expr v h = λ u i. i
    exprs_single (typed_expr_and x xs) v h = λ u i. expr_single x v h.0 u (exprs_single xs (visit_expr p x v).visit h.1 u i)

    lets_single : (ds : TypedLets) (v : Visit) → LetsCallAlone (IsSingle p) ds → GoesOverNoMore v (visit_lets p ds v)
    lets_single no_typed_let v h = λ u i. i
    lets_single (typed_let_and x ty value rest) v h = grind (arith, common_steps, expr_single value v h.0, lets_single rest)

-- 2. impure calls
-- no impure call was met
abbrev MetNoImpureCall : Visit → Type 0
MetNoImpureCall v = v.demands.impure ≡ []

term_quiet : (k : Kind) (t : ℕ) (a : ValuedAll) → MetNoImpureCall (visit_term k t a).visit → IsTrue (flags_of k).pure × MetNoImpureCall a.visit
term_quiet k t a h = grind (arith, common_steps)

module _ (p : Program) where
  mutual
    -- an expression whose visit meets no impure call is pure
    pub expr_quiet : (x : TypedExpr) (v : Visit) → MetNoImpureCall (visit_expr p x v).visit → IsPureExpr p x × MetNoImpureCall v
    expr_quiet (make_term ty t args) v h = let a = term_quiet (kind p t) t (visit_exprs p args v) h in let b = exprs_quiet args v a.1 in ((a.0, b.0), b.1)
    expr_quiet (make_let ty defs body) v h = let a = expr_quiet body (visit_lets p defs v) h in let b = lets_quiet defs v a.1 in ((b.0, a.0), b.1)
    expr_quiet _ v h = (tt, h)

    exprs_quiet : (xs : TypedExprs) (v : Visit) → MetNoImpureCall (visit_exprs p xs v).visit → ArePureExprs p xs × MetNoImpureCall v
    exprs_quiet no_typed_expr v h = (tt, h)
    exprs_quiet (typed_expr_and x xs) v h = let a = exprs_quiet xs (visit_expr p x v).visit h in let b = expr_quiet x v a.1 in ((b.0, a.0), b.1)

    lets_quiet : (ds : TypedLets) (v : Visit) → MetNoImpureCall (visit_lets p ds v) → ArePureLets p ds × MetNoImpureCall v
    lets_quiet no_typed_let v h = (tt, h)
    lets_quiet (typed_let_and x ty value rest) v h = grind (arith, common_steps, lets_quiet rest, expr_quiet value v)
