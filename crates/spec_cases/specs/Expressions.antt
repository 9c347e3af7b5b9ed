-- What the numbers of expressions stand for.
use Rattle.std.specs.Prelude.{◌≡◌, ℕ, Bool, true, ◌&&◌, nat_lt, List, Some, slice_get}
use Rattle.laws_specs.specs.Specs as L
use Rattle.spec_cases.specs.declared.expressions.Expr.{Expr}
use Rattle.spec_cases.specs.declared.expressions.Expr.TheVariants as X
use Rattle.spec_cases.specs.declared.formulas.Node.{Node}
use Rattle.spec_cases.specs.Literals.{literal_view}
use Rattle.spec_cases.specs.Namings.{Naming, Names, operator_view}
use Rattle.spec_cases.specs.Places.{AreApart}

pub record Saying : Type 0 where
  pub expr : ℕ → L.SpecExpr
  pub exprs : ℕ → L.SpecExprs
  pub cases : ℕ → L.SpecCases
  pub arms : ℕ → L.SpecArms

-- a number stands for what was made
abbrev pub IsSaid : Saying → ℕ → Expr → Type 0
IsSaid w n (X.Argument i) = w.expr n ≡ L.its_argument i
IsSaid w n X.Result = w.expr n ≡ L.its_result
IsSaid w n (X.Variable i) = w.expr n ≡ L.variable i
IsSaid w n (X.Written x) = w.expr n ≡ L.the_same (literal_view x)
IsSaid w n (X.Operation o of) = w.expr n ≡ L.operation (operator_view o) (w.exprs of.0)
IsSaid w n (X.Unknown f of) = w.expr n ≡ L.unknown f (w.exprs of.0)
IsSaid w n (X.VariantSaid ty variant of) = w.expr n ≡ L.variant_said ty.0 variant.0 (w.exprs of.0)
IsSaid w n (X.StructSaid ty of) = w.expr n ≡ L.struct_said ty.0 (w.exprs of.0)
IsSaid w n (X.LetIn e body) = w.expr n ≡ L.let_in (w.expr e.0) (w.expr body.0)
IsSaid w n (X.SwitchOn e cases) = w.expr n ≡ L.switch_on (w.expr e.0) (w.cases cases.0)
IsSaid w n (X.MatchOn e arms) = w.expr n ≡ L.match_on (w.expr e.0) (w.arms arms.0)
IsSaid w n X.NoExpr = w.exprs n ≡ L.no_spec_expr
IsSaid w n (X.ExprAnd e rest) = w.exprs n ≡ L.spec_expr_and (w.expr e.0) (w.exprs rest.0)
IsSaid w n X.NoCase = w.cases n ≡ L.no_case
IsSaid w n (X.CaseAnd key e rest) = w.cases n ≡ L.case_and (w.expr key.0) (w.expr e.0) (w.cases rest.0)
IsSaid w n X.NoArm = w.arms n ≡ L.no_spec_arm
IsSaid w n (X.VariantArm ty variant body rest) = w.arms n ≡ L.spec_arm_and ty.0 variant.0 (w.expr body.0) (w.arms rest.0)
IsSaid w n (X.StructArm ty body) = w.arms n ≡ L.struct_arm ty.0 (w.expr body.0)
IsSaid w n (X.ElseArm body) = w.arms n ≡ L.arm_else (w.expr body.0)

abbrev pub AreSaid : Saying → List Expr → Type 0
AreSaid w exprs = (n : ℕ) (x : Expr) → slice_get exprs n ≡ Some x → IsSaid w n x

-- all that it is made of has smaller numbers
abbrev pub is_below : ℕ → Expr → Bool
is_below limit (X.Argument i) = true
is_below limit X.Result = true
is_below limit (X.Variable i) = true
is_below limit (X.Written x) = true
is_below limit (X.Operation o of) = nat_lt of.0 limit
is_below limit (X.Unknown f of) = nat_lt of.0 limit
is_below limit (X.VariantSaid ty variant of) = nat_lt of.0 limit
is_below limit (X.StructSaid ty of) = nat_lt of.0 limit
is_below limit (X.LetIn e body) = nat_lt e.0 limit && nat_lt body.0 limit
is_below limit (X.SwitchOn e cases) = nat_lt e.0 limit && nat_lt cases.0 limit
is_below limit (X.MatchOn e arms) = nat_lt e.0 limit && nat_lt arms.0 limit
is_below limit X.NoExpr = true
is_below limit (X.ExprAnd e rest) = nat_lt e.0 limit && nat_lt rest.0 limit
is_below limit X.NoCase = true
is_below limit (X.CaseAnd key e rest) = (nat_lt key.0 limit && nat_lt e.0 limit) && nat_lt rest.0 limit
is_below limit X.NoArm = true
is_below limit (X.VariantArm ty variant body rest) = nat_lt body.0 limit && nat_lt rest.0 limit
is_below limit (X.StructArm ty body) = nat_lt body.0 limit
is_below limit (X.ElseArm body) = nat_lt body.0 limit

-- formulas are added, and what was there stands for what it stood for; whatever numbers stand for, of sites that are told apart, P is so
abbrev pub Evaluates : List Node → List Node → List Expr → (Naming → Saying → Type 0) → Type 0
Evaluates old new exprs P = (v : Naming) (w : Saying) → Names v new → AreApart v → AreSaid w exprs → Names v old × P v w
