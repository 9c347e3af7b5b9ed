-- What expansions make: a template with patterns in the place of its arguments, and a use of a converter.
use Rattle.std.specs.Prelude.{List, [], length, Option, Some, None, unwrap_or, slice_get, option_map, if◌then◌else◌}
use Rattle.std.specs.Bool.{◌==◌}
use Rattle.model.specs.lists.Syntax.{Position, Name, PatternTree, var_pattern, bind_pattern, bool_pattern, int_pattern, prim_pattern, term_pattern, wildcard_pattern, and_pattern, macro_arg, PatternTrees, no_pattern, pattern_and, ExprTree, term_expr, no_expr, expr_and, pattern_list}
use Rattle.model.specs.lists.Tables.{TermEntry}
use Rattle.model.specs.lists.Setting.{Scope}

-- a pattern before others, where all of them are there
abbrev pub with_pattern : Option PatternTree → Option PatternTrees → Option PatternTrees
with_pattern None o = None
with_pattern (Some p) None = None
with_pattern (Some p) (Some rest) = Some (pattern_and p rest)

-- a template with the i-th of these patterns in the place of each argument i, where it is there
abbrev mutual
  pub substituted : List PatternTree → PatternTree → Option PatternTree
  substituted given (macro_arg i at) = slice_get given i
  substituted given (bind_pattern name of at) = option_map (λ p. bind_pattern name p at) (substituted given of)
  substituted given (term_pattern term args at) = option_map (λ ps. term_pattern term ps at) (all_substituted given args)
  substituted given (and_pattern parts at) = option_map (λ ps. and_pattern ps at) (all_substituted given parts)
  substituted given (var_pattern name at) = Some (var_pattern name at)
  substituted given (bool_pattern b at) = Some (bool_pattern b at)
  substituted given (int_pattern z at) = Some (int_pattern z at)
  substituted given (prim_pattern name at) = Some (prim_pattern name at)
  substituted given (wildcard_pattern at) = Some (wildcard_pattern at)

  pub all_substituted : List PatternTree → PatternTrees → Option PatternTrees
  all_substituted given no_pattern = Some no_pattern
  all_substituted given (pattern_and p rest) = with_pattern (substituted given p) (all_substituted given rest)

-- what the use of a template stands for: as many patterns as the term has arguments, put into the template
abbrev pub expanded : TermEntry → PatternTrees → PatternTree → Option PatternTree
expanded t args template = if length (pattern_list args) == length t.arg_tys then substituted (pattern_list args) template else None

-- a term's name, at a place
abbrev pub term_name_at : Scope → TermEntry → Position → Name
term_name_at s t at = record { text = unwrap_or (slice_get s.names t.name) []; at = at }

-- a pattern inside a use of a converter
abbrev pub wrapped_pattern : Scope → TermEntry → Position → PatternTree → PatternTree
wrapped_pattern s t at p = term_pattern (term_name_at s t at) (pattern_and p no_pattern) at

-- an expression inside a use of a converter
abbrev pub wrapped_expr : Scope → TermEntry → Position → ExprTree → ExprTree
wrapped_expr s t at e = term_expr (term_name_at s t at) (expr_and e no_expr) at
