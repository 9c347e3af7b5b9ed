-- Without its places a definition has none to lose.
use Rattle.std.proofs.Common.{◌≡◌, refl, ap, List, [], ◌∷◌, map, arith}
use Rattle.std.proofs.lemmas.Grind.{common_steps}
use Rattle.model.specs.lists.Syntax.{PatternTree, bind_pattern, term_pattern, and_pattern, PatternTrees, no_pattern, pattern_and, ExprTree, term_expr, let_expr, ExprTrees, no_expr, expr_and, LetTrees, no_let, let_and, Definition}
use Rattle.text_reader.specs.Solid.{nowhere, placeless_name}
use Rattle.text_writer.specs.Placeless.{placeless_pattern, placeless_patterns, placeless_expr, placeless_exprs, placeless_lets, placeless_definition}

pub map_twice : {A : Type 0} (f : A → A) → ((x : A) → f (f x) ≡ f x) → (xs : List A) → map f (map f xs) ≡ map f xs
map_twice f twice [] = refl
map_twice f twice (x ∷ xs) = rw (twice x, map_twice f twice xs) refl

mutual
  pattern_twice : (q : PatternTree) → placeless_pattern (placeless_pattern q) ≡ placeless_pattern q
  pattern_twice (bind_pattern n q p) = ap (λ x. bind_pattern (placeless_name n) x nowhere) (pattern_twice q)
  pattern_twice (term_pattern t qs p) = ap (λ x. term_pattern (placeless_name t) x nowhere) (patterns_twice qs)
  pattern_twice (and_pattern qs p) = ap (λ x. and_pattern x nowhere) (patterns_twice qs)
  pattern_twice _ = refl

  patterns_twice : (qs : PatternTrees) → placeless_patterns (placeless_patterns qs) ≡ placeless_patterns qs
  patterns_twice no_pattern = refl
  patterns_twice (pattern_and q qs) = rw (pattern_twice q, patterns_twice qs) refl

mutual
  expr_twice : (e : ExprTree) → placeless_expr (placeless_expr e) ≡ placeless_expr e
  expr_twice (term_expr t es p) = ap (λ x. term_expr (placeless_name t) x nowhere) (exprs_twice es)
  expr_twice (let_expr ds e p) = rw (lets_twice ds, expr_twice e) refl
  expr_twice _ = refl

  exprs_twice : (es : ExprTrees) → placeless_exprs (placeless_exprs es) ≡ placeless_exprs es
  exprs_twice no_expr = refl
  exprs_twice (expr_and e es) = rw (expr_twice e, exprs_twice es) refl

  lets_twice : (ds : LetTrees) → placeless_lets (placeless_lets ds) ≡ placeless_lets ds
  lets_twice no_let = refl
  lets_twice (let_and n t e p ds) = rw (expr_twice e, lets_twice ds) refl

pub definition_twice : (d : Definition) → placeless_definition (placeless_definition d) ≡ placeless_definition d
definition_twice d = grind (arith, common_steps, map_twice, pattern_twice, expr_twice)
