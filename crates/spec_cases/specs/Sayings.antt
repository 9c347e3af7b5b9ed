-- What the numbers of expressions stand for where each is made of earlier ones.
use Rattle.std.specs.Prelude.{◌≡◌, ℕ, zero, suc, true, List, Option, Some, slice_get, length}
use Rattle.laws_specs.specs.Specs as L
use Rattle.spec_cases.specs.declared.expressions.Expr.{Expr}
use Rattle.spec_cases.specs.declared.expressions.Expr.TheVariants as X
use Rattle.spec_cases.specs.Expressions.{Saying, is_below}
use Rattle.spec_cases.specs.Literals.{literal_view}
use Rattle.spec_cases.specs.Namings.{operator_view}

-- each is made of earlier ones
abbrev pub AreBelow : List Expr → Type 0
AreBelow exprs = (n : ℕ) (x : Expr) → slice_get exprs n ≡ Some x → is_below n x ≡ true

abbrev pub expr_by : Saying → Option Expr → L.SpecExpr
expr_by w (Some (X.Argument i)) = L.its_argument i
expr_by w (Some X.Result) = L.its_result
expr_by w (Some (X.Variable i)) = L.variable i
expr_by w (Some (X.Written x)) = L.the_same (literal_view x)
expr_by w (Some (X.Operation o of)) = L.operation (operator_view o) (w.exprs of.0)
expr_by w (Some (X.Unknown f of)) = L.unknown f (w.exprs of.0)
expr_by w (Some (X.VariantSaid ty variant of)) = L.variant_said ty.0 variant.0 (w.exprs of.0)
expr_by w (Some (X.StructSaid ty of)) = L.struct_said ty.0 (w.exprs of.0)
expr_by w (Some (X.LetIn e body)) = L.let_in (w.expr e.0) (w.expr body.0)
expr_by w (Some (X.SwitchOn e cases)) = L.switch_on (w.expr e.0) (w.cases cases.0)
expr_by w (Some (X.MatchOn e arms)) = L.match_on (w.expr e.0) (w.arms arms.0)
expr_by w _ = L.its_result

abbrev pub exprs_by : Saying → Option Expr → L.SpecExprs
exprs_by w (Some X.NoExpr) = L.no_spec_expr
exprs_by w (Some (X.ExprAnd e rest)) = L.spec_expr_and (w.expr e.0) (w.exprs rest.0)
exprs_by w _ = L.no_spec_expr

abbrev pub cases_by : Saying → Option Expr → L.SpecCases
cases_by w (Some X.NoCase) = L.no_case
cases_by w (Some (X.CaseAnd key e rest)) = L.case_and (w.expr key.0) (w.expr e.0) (w.cases rest.0)
cases_by w _ = L.no_case

abbrev pub arms_by : Saying → Option Expr → L.SpecArms
arms_by w (Some X.NoArm) = L.no_spec_arm
arms_by w (Some (X.VariantArm ty variant body rest)) = L.spec_arm_and ty.0 variant.0 (w.expr body.0) (w.arms rest.0)
arms_by w (Some (X.StructArm ty body)) = L.struct_arm ty.0 (w.expr body.0)
arms_by w (Some (X.ElseArm body)) = L.arm_else (w.expr body.0)
arms_by w _ = L.no_spec_arm

module _ (exprs : List Expr) where
  -- so many layers deep
  abbrev pub saying_at : ℕ → Saying
  saying_at zero = record { expr = λ n. L.its_result; exprs = λ n. L.no_spec_expr; cases = λ n. L.no_case; arms = λ n. L.no_spec_arm }
  saying_at (suc k) = record {
    expr = λ n. expr_by (saying_at k) (slice_get exprs n);
    exprs = λ n. exprs_by (saying_at k) (slice_get exprs n);
    cases = λ n. cases_by (saying_at k) (slice_get exprs n);
    arms = λ n. arms_by (saying_at k) (slice_get exprs n);
  }

  -- no expression is deeper than there are expressions
  abbrev pub saying_of : Saying
  saying_of = saying_at (suc (length exprs))
