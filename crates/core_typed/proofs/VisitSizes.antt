-- How large patterns and expressions are: visits of parts end since a part is smaller than the whole.
use Rattle.std.proofs.Common.{ℕ, suc, ◌+◌, ◌<◌, List, ◌∷◌, length, get_or, Box, arith}
use Rattle.std.specs.declared.alloc.Global.{Global}
use Rattle.core_types.specs.declared.ids.TypeId.{TypeId}
use Rattle.core_types.specs.declared.ids.VarId.{VarId}
use Rattle.model.specs.rules.Typed.{TypedPattern, match_bind, match_var, match_bool, match_int, match_prim, match_term, match_any, match_and, TypedPatterns, no_typed_pattern, typed_pattern_and, TypedExpr, make_term, make_var, make_bool, make_int, make_prim, make_let, TypedExprs, no_typed_expr, typed_expr_and, TypedLets, no_typed_let, typed_let_and}
use Rattle.core_typed.specs.declared.patterns.Pattern.{Pattern}
use Rattle.core_typed.specs.declared.exprs.Expr.{Expr}
use Rattle.core_typed.specs.PatternViews.{pattern_view, pattern_views, pattern_parts}
use Rattle.core_typed.specs.ExprViews.{expr_view, expr_views, expr_parts, let_views, let_parts}

abbrev mutual
  pub pattern_size : TypedPattern → ℕ
  pattern_size (match_bind ty x of) = suc (pattern_size of)
  pattern_size (match_var ty x) = 1
  pattern_size (match_bool ty b) = 1
  pattern_size (match_int ty z) = 1
  pattern_size (match_prim ty name) = 1
  pattern_size (match_term ty term args) = suc (patterns_size args)
  pattern_size (match_any ty) = 1
  pattern_size (match_and ty parts) = suc (patterns_size parts)

  pub patterns_size : TypedPatterns → ℕ
  patterns_size no_typed_pattern = 0
  patterns_size (typed_pattern_and q rest) = suc (pattern_size q + patterns_size rest)

abbrev mutual
  pub expr_size : TypedExpr → ℕ
  expr_size (make_term ty term args) = suc (exprs_size args)
  expr_size (make_var ty x) = 1
  expr_size (make_bool ty b) = 1
  expr_size (make_int ty z) = 1
  expr_size (make_prim ty name) = 1
  expr_size (make_let ty defs body) = suc (lets_size defs + expr_size body)

  pub exprs_size : TypedExprs → ℕ
  exprs_size no_typed_expr = 0
  exprs_size (typed_expr_and e rest) = suc (expr_size e + exprs_size rest)

  pub lets_size : TypedLets → ℕ
  lets_size no_typed_let = 0
  lets_size (typed_let_and x ty value rest) = suc (expr_size value + lets_size rest)

pub smaller_pattern : (ps : List Pattern) (i : ℕ) (d : Pattern) → i < length ps → pattern_size (pattern_view (get_or ps i d)) < patterns_size (pattern_parts (pattern_views ps))
smaller_pattern (p ∷ ps) (suc i) d lt = let r = smaller_pattern ps i d (omega arith) in omega (arith, r)
smaller_pattern ps i d lt = grind arith

pub smaller_expr : (es : List Expr) (i : ℕ) (d : Expr) → i < length es → expr_size (expr_view (get_or es i d)) < exprs_size (expr_parts (expr_views es))
smaller_expr (e ∷ es) (suc i) d lt = let r = smaller_expr es i d (omega arith) in omega (arith, r)
smaller_expr es i d lt = grind arith

pub smaller_value : (ds : List (VarId × TypeId × Box Expr Global)) (i : ℕ) (d : VarId × TypeId × Box Expr Global) → i < length ds → expr_size (expr_view (get_or ds i d).2.value) < lets_size (let_parts (let_views ds))
smaller_value (e ∷ ds) (suc i) d lt = let r = smaller_value ds i d (omega arith) in omega (arith, r)
smaller_value ds i d lt = grind arith
