-- How large expressions are: conversions end, since so many may nest, and each makes an expression that is little larger.
use Rattle.std.proofs.Common.{◌≡◌, ℕ, suc, ◌+◌, ◌<◌, ◌≤◌, List, [], ◌∷◌, length, get_or, arith}
use Rattle.std.proofs.lemmas.Grind.{common_steps}
use Rattle.core_syntax.specs.declared.syntax.Expr as T
use Rattle.core_syntax.specs.declared.syntax.LetDef.{LetDef}
use Rattle.core_syntax.specs.SyntaxViews as S
use Rattle.model.specs.lists.Syntax.{Position, Name, ExprTree, term_expr, var_expr, bool_expr, int_expr, prim_expr, let_expr, ExprTrees, no_expr, expr_and, LetTrees, no_let, let_and}
use Rattle.core_rules.proofs.PatternSizes.{grown, smaller, deeper_smaller}

abbrev mutual
  pub expr_size : ExprTree → ℕ
  expr_size (term_expr name args at) = suc (exprs_size args)
  expr_size (var_expr name at) = 1
  expr_size (bool_expr b at) = 1
  expr_size (int_expr z at) = 1
  expr_size (prim_expr name at) = 1
  expr_size (let_expr defs body at) = suc (suc (lets_size defs + expr_size body))

  pub exprs_size : ExprTrees → ℕ
  exprs_size no_expr = 0
  exprs_size (expr_and x rest) = suc (expr_size x + exprs_size rest)

  pub lets_size : LetTrees → ℕ
  lets_size no_let = 0
  lets_size (let_and name ty value at rest) = suc (suc (expr_size value) + lets_size rest)

one_at_least : (x : ExprTree) → 1 ≤ expr_size x
one_at_least (term_expr name args at) = omega arith
one_at_least (var_expr name at) = omega arith
one_at_least (bool_expr b at) = omega arith
one_at_least (int_expr z at) = omega arith
one_at_least (prim_expr name at) = omega arith
one_at_least (let_expr defs body at) = omega arith

pub less : (d m n : ℕ) → m < n → grown 4 d m < grown 4 d n
less d m n h = smaller [] d m n h

-- a use of a converter around an expression, within one expansion fewer
pub inside_less : (d left : ℕ) (whole made : ExprTree) (name : Name) (at : Position) → suc left ≡ d → made ≡ term_expr name (expr_and whole no_expr) at → grown 4 left (expr_size made) < grown 4 d (expr_size whole)
inside_less d left whole made name at nests form = grind (arith, common_steps, one_at_least whole, deeper_smaller [] left, grown 4)

pub smaller_arg : (xs : List T.Expr) (i : ℕ) (d : T.Expr) → i < length xs → expr_size (S.expr_view (get_or xs i d)) < exprs_size (S.expr_views xs)
smaller_arg (x ∷ xs) (suc i) d lt = let r = smaller_arg xs i d (omega arith) in omega (arith, r)
smaller_arg xs i d lt = grind arith

pub smaller_def : (ds : List LetDef) (i : ℕ) (d : LetDef) → i < length ds → suc (expr_size (S.expr_view (get_or ds i d).val.value)) < lets_size (S.let_views ds)
smaller_def (x ∷ xs) (suc i) d lt = let r = smaller_def xs i d (omega arith) in omega (arith, r)
smaller_def ds i d lt = grind arith
