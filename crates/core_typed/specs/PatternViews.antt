-- What typed patterns say, without where their parts lie in memory.
use Rattle.std.specs.Prelude.{List, [], ◌∷◌, map}
use Rattle.model.specs.rules.Typed.{TypedPattern, match_bind, match_var, match_bool, match_int, match_prim, match_term, match_any, match_and, TypedPatterns, no_typed_pattern, typed_pattern_and}
use Rattle.core_typed.specs.declared.patterns.Pattern.{Pattern, BindPattern', Var, ConstBool, ConstInt, ConstPrim, Term', Wildcard, And', Row_of-Pattern, end_of-Pattern, more_of-Pattern}

abbrev mutual
  pub pattern_view : Pattern → TypedPattern
  pattern_view (BindPattern' ty x shape q) = match_bind ty.0 x.0 (pattern_view q)
  pattern_view (Var ty x) = match_var ty.0 x.0
  pattern_view (ConstBool ty b) = match_bool ty.0 b
  pattern_view (ConstInt ty z) = match_int ty.0 z
  pattern_view (ConstPrim ty s) = match_prim ty.0 s.0
  pattern_view (Term' ty t shape qs) = match_term ty.0 t.0 (row_patterns qs)
  pattern_view (Wildcard ty) = match_any ty.0
  pattern_view (And' ty shape qs) = match_and ty.0 (row_patterns qs)

  pub row_patterns : {m : _} → Row_of-Pattern m → TypedPatterns
  row_patterns end_of-Pattern = no_typed_pattern
  row_patterns (more_of-Pattern q qs) = typed_pattern_and (pattern_view q) (row_patterns qs)

-- the patterns of a list
abbrev pub pattern_views : List Pattern → List TypedPattern
pattern_views qs = map pattern_view qs

-- patterns as the parts of a pattern
abbrev pub pattern_parts : List TypedPattern → TypedPatterns
pattern_parts [] = no_typed_pattern
pattern_parts (p ∷ ps) = typed_pattern_and p (pattern_parts ps)
