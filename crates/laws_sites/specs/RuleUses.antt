-- The terms and the named constants that rules use.
use Rattle.std.specs.Prelude.{ℕ, List, [], ◌∷◌, ◌++◌}
use Rattle.std.specs.List.{flat_map}
use Rattle.model.specs.rules.Typed.{TypedPattern, match_bind, match_prim, match_term, match_and, TypedPatterns, no_typed_pattern, typed_pattern_and, TypedExpr, make_term, make_prim, make_let, TypedExprs, no_typed_expr, typed_expr_and, TypedLets, no_typed_let, typed_let_and, TypedRule}

-- a term by its id, or a constant by the number of its name
pub data Use : Type 0 where
  a_term : (t : ℕ) → Use
  a_constant : (name : ℕ) → Use

-- those of patterns
abbrev mutual
  pub pattern_uses : TypedPattern → List Use
  pattern_uses (match_bind ty x sub) = pattern_uses sub
  pattern_uses (match_prim ty name) = a_constant name ∷ []
  pattern_uses (match_term ty t args) = a_term t ∷ patterns_uses args
  pattern_uses (match_and ty subs) = patterns_uses subs
  pattern_uses _ = []

  pub patterns_uses : TypedPatterns → List Use
  patterns_uses no_typed_pattern = []
  patterns_uses (typed_pattern_and q qs) = pattern_uses q ++ patterns_uses qs

-- those of expressions
abbrev mutual
  pub expr_uses : TypedExpr → List Use
  expr_uses (make_term ty t args) = a_term t ∷ exprs_uses args
  expr_uses (make_prim ty name) = a_constant name ∷ []
  expr_uses (make_let ty defs body) = lets_uses defs ++ expr_uses body
  expr_uses _ = []

  pub exprs_uses : TypedExprs → List Use
  exprs_uses no_typed_expr = []
  exprs_uses (typed_expr_and x xs) = expr_uses x ++ exprs_uses xs

  pub lets_uses : TypedLets → List Use
  lets_uses no_typed_let = []
  lets_uses (typed_let_and x ty value rest) = expr_uses value ++ lets_uses rest

-- what the patterns of rules use: terms, whose extractors they call, and constants; and what their expressions do: terms, whose
-- constructors they call, and constants
abbrev pub matched_in : TypedRule → List Use
matched_in r = flat_map pattern_uses r.args ++ flat_map (λ i. pattern_uses i.lhs) r.iflets

abbrev pub called_in : TypedRule → List Use
called_in r = flat_map (λ i. expr_uses i.rhs) r.iflets ++ expr_uses r.rhs
