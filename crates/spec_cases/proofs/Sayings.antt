-- What numbers of expressions stand for doesn't change with more layers than their own, so each stands for what was made.
use Rattle.std.proofs.Common.{◌≡◌, ℕ, zero, suc, ◌<◌, true, nat_lt, List, length, Option, Some, None, slice_get, refl, ap, ◌∙◌, arith, ltb-true}
use Rattle.std.proofs.lemmas.Bool.{and_parts}
use Rattle.std.proofs.lemmas.Option.{slice_get_within}
use Rattle.laws_specs.specs.Specs as L
use Rattle.spec_cases.specs.declared.expressions.Expr.{Expr}
use Rattle.spec_cases.specs.declared.expressions.Expr.TheVariants as X
use Rattle.spec_cases.specs.Expressions.{Saying, IsSaid, AreSaid, is_below}
use Rattle.spec_cases.specs.Namings.{operator_view}
use Rattle.spec_cases.specs.Sayings.{AreBelow, expr_by, exprs_by, cases_by, arms_by, saying_at, saying_of}

-- two agree on the first numbers
record Agree (count : ℕ) (v w : Saying) : Type 0 where
  pub expr : (n : ℕ) → n < count → v.expr n ≡ w.expr n
  pub exprs : (n : ℕ) → n < count → v.exprs n ≡ w.exprs n
  pub cases : (n : ℕ) → n < count → v.cases n ≡ w.cases n
  pub arms : (n : ℕ) → n < count → v.arms n ≡ w.arms n

-- what a number has is made of earlier ones
abbrev IsWithin : ℕ → Option Expr → Type 0
IsWithin count None = Unit {0}
IsWithin count (Some x) = is_below count x ≡ true

module _ (count : ℕ) (v w : Saying) (a : Agree count v w) where
  at_expr : (n : ℕ) → nat_lt n count ≡ true → v.expr n ≡ w.expr n
  at_expr n h = a.expr n (ltb-true n count h)

  at_exprs : (n : ℕ) → nat_lt n count ≡ true → v.exprs n ≡ w.exprs n
  at_exprs n h = a.exprs n (ltb-true n count h)

  at_cases : (n : ℕ) → nat_lt n count ≡ true → v.cases n ≡ w.cases n
  at_cases n h = a.cases n (ltb-true n count h)

  at_arms : (n : ℕ) → nat_lt n count ≡ true → v.arms n ≡ w.arms n
  at_arms n h = a.arms n (ltb-true n count h)

  expr_same : (o : Option Expr) → IsWithin count o → expr_by v o ≡ expr_by w o
  expr_same None h = refl
  expr_same (Some (X.Argument i)) h = refl
  expr_same (Some X.Result) h = refl
  expr_same (Some (X.Variable i)) h = refl
  expr_same (Some (X.Written x)) h = refl
  expr_same (Some (X.Operation o of)) h = ap (λ y. L.operation (operator_view o) y) (at_exprs of.0 h)
  expr_same (Some (X.Unknown f of)) h = ap (λ y. L.unknown f y) (at_exprs of.0 h)
  expr_same (Some (X.VariantSaid ty variant of)) h = ap (λ y. L.variant_said ty.0 variant.0 y) (at_exprs of.0 h)
  expr_same (Some (X.StructSaid ty of)) h = ap (λ y. L.struct_said ty.0 y) (at_exprs of.0 h)
  expr_same (Some (X.LetIn e body)) h = ap (λ y. L.let_in y (v.expr body.0)) (at_expr e.0 (and_parts _ _ h).0) ∙ ap (λ y. L.let_in (w.expr e.0) y) (at_expr body.0 (and_parts _ _ h).1)
  expr_same (Some (X.SwitchOn e cases)) h = ap (λ y. L.switch_on y (v.cases cases.0)) (at_expr e.0 (and_parts _ _ h).0) ∙ ap (λ y. L.switch_on (w.expr e.0) y) (at_cases cases.0 (and_parts _ _ h).1)
  expr_same (Some (X.MatchOn e arms)) h = ap (λ y. L.match_on y (v.arms arms.0)) (at_expr e.0 (and_parts _ _ h).0) ∙ ap (λ y. L.match_on (w.expr e.0) y) (at_arms arms.0 (and_parts _ _ h).1)
  expr_same (Some X.NoExpr) h = refl
  expr_same (Some (X.ExprAnd e rest)) h = refl
  expr_same (Some X.NoCase) h = refl
  expr_same (Some (X.CaseAnd key e rest)) h = refl
  expr_same (Some X.NoArm) h = refl
  expr_same (Some (X.VariantArm ty variant body rest)) h = refl
  expr_same (Some (X.StructArm ty body)) h = refl
  expr_same (Some (X.ElseArm body)) h = refl

  exprs_same : (o : Option Expr) → IsWithin count o → exprs_by v o ≡ exprs_by w o
  exprs_same None h = refl
  exprs_same (Some (X.Argument i)) h = refl
  exprs_same (Some X.Result) h = refl
  exprs_same (Some (X.Variable i)) h = refl
  exprs_same (Some (X.Written x)) h = refl
  exprs_same (Some (X.Operation o of)) h = refl
  exprs_same (Some (X.Unknown f of)) h = refl
  exprs_same (Some (X.VariantSaid ty variant of)) h = refl
  exprs_same (Some (X.StructSaid ty of)) h = refl
  exprs_same (Some (X.LetIn e body)) h = refl
  exprs_same (Some (X.SwitchOn e cases)) h = refl
  exprs_same (Some (X.MatchOn e arms)) h = refl
  exprs_same (Some X.NoExpr) h = refl
  exprs_same (Some (X.ExprAnd e rest)) h = ap (λ y. L.spec_expr_and y (v.exprs rest.0)) (at_expr e.0 (and_parts _ _ h).0) ∙ ap (λ y. L.spec_expr_and (w.expr e.0) y) (at_exprs rest.0 (and_parts _ _ h).1)
  exprs_same (Some X.NoCase) h = refl
  exprs_same (Some (X.CaseAnd key e rest)) h = refl
  exprs_same (Some X.NoArm) h = refl
  exprs_same (Some (X.VariantArm ty variant body rest)) h = refl
  exprs_same (Some (X.StructArm ty body)) h = refl
  exprs_same (Some (X.ElseArm body)) h = refl

  cases_same : (o : Option Expr) → IsWithin count o → cases_by v o ≡ cases_by w o
  cases_same None h = refl
  cases_same (Some (X.Argument i)) h = refl
  cases_same (Some X.Result) h = refl
  cases_same (Some (X.Variable i)) h = refl
  cases_same (Some (X.Written x)) h = refl
  cases_same (Some (X.Operation o of)) h = refl
  cases_same (Some (X.Unknown f of)) h = refl
  cases_same (Some (X.VariantSaid ty variant of)) h = refl
  cases_same (Some (X.StructSaid ty of)) h = refl
  cases_same (Some (X.LetIn e body)) h = refl
  cases_same (Some (X.SwitchOn e cases)) h = refl
  cases_same (Some (X.MatchOn e arms)) h = refl
  cases_same (Some X.NoExpr) h = refl
  cases_same (Some (X.ExprAnd e rest)) h = refl
  cases_same (Some X.NoCase) h = refl
  cases_same (Some (X.CaseAnd key e rest)) h = ap (λ y. L.case_and y (v.expr e.0) (v.cases rest.0)) (at_expr key.0 (and_parts _ _ (and_parts _ _ h).0).0) ∙ ap (λ y. L.case_and (w.expr key.0) y (v.cases rest.0)) (at_expr e.0 (and_parts _ _ (and_parts _ _ h).0).1) ∙ ap (λ y. L.case_and (w.expr key.0) (w.expr e.0) y) (at_cases rest.0 (and_parts _ _ h).1)
  cases_same (Some X.NoArm) h = refl
  cases_same (Some (X.VariantArm ty variant body rest)) h = refl
  cases_same (Some (X.StructArm ty body)) h = refl
  cases_same (Some (X.ElseArm body)) h = refl

  arms_same : (o : Option Expr) → IsWithin count o → arms_by v o ≡ arms_by w o
  arms_same None h = refl
  arms_same (Some (X.Argument i)) h = refl
  arms_same (Some X.Result) h = refl
  arms_same (Some (X.Variable i)) h = refl
  arms_same (Some (X.Written x)) h = refl
  arms_same (Some (X.Operation o of)) h = refl
  arms_same (Some (X.Unknown f of)) h = refl
  arms_same (Some (X.VariantSaid ty variant of)) h = refl
  arms_same (Some (X.StructSaid ty of)) h = refl
  arms_same (Some (X.LetIn e body)) h = refl
  arms_same (Some (X.SwitchOn e cases)) h = refl
  arms_same (Some (X.MatchOn e arms)) h = refl
  arms_same (Some X.NoExpr) h = refl
  arms_same (Some (X.ExprAnd e rest)) h = refl
  arms_same (Some X.NoCase) h = refl
  arms_same (Some (X.CaseAnd key e rest)) h = refl
  arms_same (Some X.NoArm) h = refl
  arms_same (Some (X.VariantArm ty variant body rest)) h = ap (λ y. L.spec_arm_and ty.0 variant.0 y (v.arms rest.0)) (at_expr body.0 (and_parts _ _ h).0) ∙ ap (λ y. L.spec_arm_and ty.0 variant.0 (w.expr body.0) y) (at_arms rest.0 (and_parts _ _ h).1)
  arms_same (Some (X.StructArm ty body)) h = ap (λ y. L.struct_arm ty.0 y) (at_expr body.0 h)
  arms_same (Some (X.ElseArm body)) h = ap (λ y. L.arm_else y) (at_expr body.0 h)

fewer : (count n : ℕ) (v w : Saying) → n < suc count → Agree count v w → Agree n v w
fewer count n v w h a = record {
  expr = λ m l. a.expr m (omega arith);
  exprs = λ m l. a.exprs m (omega arith);
  cases = λ m l. a.cases m (omega arith);
  arms = λ m l. a.arms m (omega arith);
}

module _ (exprs : List Expr) (below : AreBelow exprs) where
  within : (n : ℕ) (o : Option Expr) → slice_get exprs n ≡ o → IsWithin n o
  within n None e = tt
  within n (Some x) e = below n x e

  -- the first numbers need so many layers
  agree : (k : ℕ) → Agree k (saying_at exprs k) (saying_at exprs (suc k))
  agree zero = record {
    expr = λ n h. absurd (omega arith);
    exprs = λ n h. absurd (omega arith);
    cases = λ n h. absurd (omega arith);
    arms = λ n h. absurd (omega arith);
  }
  agree (suc k) =
      let v = saying_at exprs k in
      let w = saying_at exprs (suc k) in
      let less : (n : ℕ) → n < suc k → Agree n v w = λ n h. fewer k n v w h (agree k) in
      record {
        expr = λ n h. expr_same n v w (less n h) (slice_get exprs n) (within n (slice_get exprs n) refl);
        exprs = λ n h. exprs_same n v w (less n h) (slice_get exprs n) (within n (slice_get exprs n) refl);
        cases = λ n h. cases_same n v w (less n h) (slice_get exprs n) (within n (slice_get exprs n) refl);
        arms = λ n h. arms_same n v w (less n h) (slice_get exprs n) (within n (slice_get exprs n) refl);
      }

  said : (n : ℕ) (x : Expr) → slice_get exprs n ≡ Some x → Agree n (saying_at exprs (length exprs)) (saying_of exprs) → IsSaid (saying_of exprs) n x
  said n (X.Argument i) is a = ap (expr_by (saying_at exprs (length exprs))) is ∙ expr_same n _ _ a (Some (X.Argument i)) (below n (X.Argument i) is)
  said n X.Result e a = ap (expr_by (saying_at exprs (length exprs))) e ∙ expr_same n _ _ a (Some X.Result) (below n X.Result e)
  said n (X.Variable i) is a = ap (expr_by (saying_at exprs (length exprs))) is ∙ expr_same n _ _ a (Some (X.Variable i)) (below n (X.Variable i) is)
  said n (X.Written x) is a = ap (expr_by (saying_at exprs (length exprs))) is ∙ expr_same n _ _ a (Some (X.Written x)) (below n (X.Written x) is)
  said n (X.Operation o of) is a = ap (expr_by (saying_at exprs (length exprs))) is ∙ expr_same n _ _ a (Some (X.Operation o of)) (below n (X.Operation o of) is)
  said n (X.Unknown f of) is a = ap (expr_by (saying_at exprs (length exprs))) is ∙ expr_same n _ _ a (Some (X.Unknown f of)) (below n (X.Unknown f of) is)
  said n (X.VariantSaid ty variant of) is a = ap (expr_by (saying_at exprs (length exprs))) is ∙ expr_same n _ _ a (Some (X.VariantSaid ty variant of)) (below n (X.VariantSaid ty variant of) is)
  said n (X.StructSaid ty of) is a = ap (expr_by (saying_at exprs (length exprs))) is ∙ expr_same n _ _ a (Some (X.StructSaid ty of)) (below n (X.StructSaid ty of) is)
  said n (X.LetIn e body) is a = ap (expr_by (saying_at exprs (length exprs))) is ∙ expr_same n _ _ a (Some (X.LetIn e body)) (below n (X.LetIn e body) is)
  said n (X.SwitchOn e cases) is a = ap (expr_by (saying_at exprs (length exprs))) is ∙ expr_same n _ _ a (Some (X.SwitchOn e cases)) (below n (X.SwitchOn e cases) is)
  said n (X.MatchOn e arms) is a = ap (expr_by (saying_at exprs (length exprs))) is ∙ expr_same n _ _ a (Some (X.MatchOn e arms)) (below n (X.MatchOn e arms) is)
  said n X.NoExpr e a = ap (exprs_by (saying_at exprs (length exprs))) e ∙ exprs_same n _ _ a (Some X.NoExpr) (below n X.NoExpr e)
  said n (X.ExprAnd e rest) is a = ap (exprs_by (saying_at exprs (length exprs))) is ∙ exprs_same n _ _ a (Some (X.ExprAnd e rest)) (below n (X.ExprAnd e rest) is)
  said n X.NoCase e a = ap (cases_by (saying_at exprs (length exprs))) e ∙ cases_same n _ _ a (Some X.NoCase) (below n X.NoCase e)
  said n (X.CaseAnd key e rest) is a = ap (cases_by (saying_at exprs (length exprs))) is ∙ cases_same n _ _ a (Some (X.CaseAnd key e rest)) (below n (X.CaseAnd key e rest) is)
  said n X.NoArm e a = ap (arms_by (saying_at exprs (length exprs))) e ∙ arms_same n _ _ a (Some X.NoArm) (below n X.NoArm e)
  said n (X.VariantArm ty variant body rest) is a = ap (arms_by (saying_at exprs (length exprs))) is ∙ arms_same n _ _ a (Some (X.VariantArm ty variant body rest)) (below n (X.VariantArm ty variant body rest) is)
  said n (X.StructArm ty body) is a = ap (arms_by (saying_at exprs (length exprs))) is ∙ arms_same n _ _ a (Some (X.StructArm ty body)) (below n (X.StructArm ty body) is)
  said n (X.ElseArm body) is a = ap (arms_by (saying_at exprs (length exprs))) is ∙ arms_same n _ _ a (Some (X.ElseArm body)) (below n (X.ElseArm body) is)

  pub all_said : AreSaid (saying_of exprs) exprs
  all_said = λ n x e.
      let h = slice_get_within exprs n x e in
      said n x e (fewer (length exprs) n (saying_at exprs (length exprs)) (saying_of exprs) (omega arith) (agree (length exprs)))
