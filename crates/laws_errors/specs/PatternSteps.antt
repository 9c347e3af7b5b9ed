-- How patterns are read, with all that is wrong in them: as the code goes on, part by part.
use Rattle.std.specs.Prelude.{ℕ, zero, suc, ◌+◌, Bool, false, not, List, [], ◌∷◌, ◌++◌, length, Option, Some, None, is_some, slice_get, nat_le, if◌then◌else◌}
use Rattle.std.specs.Bool.{◌==◌}
use Rattle.model.specs.lists.Syntax.{Position, Name, PatternTree, var_pattern, bind_pattern, bool_pattern, int_pattern, prim_pattern, term_pattern, wildcard_pattern, and_pattern, macro_arg, PatternTrees, no_pattern, pattern_and, pattern_list}
use Rattle.model.specs.lists.Names.{number}
use Rattle.model.specs.lists.Ranges.{reduced}
use Rattle.model.specs.lists.Tables.{TermKindEntry, TermEntry}
use Rattle.model.specs.rules.Values.{is_atom_type}
use Rattle.model.specs.rules.Typed.{TypedPattern, match_bind, match_var, match_bool, match_int, match_prim, match_term, match_any, match_and, TypedPatterns, no_typed_pattern, typed_pattern_and, TypedVar}
use Rattle.model.specs.lists.Setting.{Setting, Scope, met, bound, var_of, term_of, type_of_constant, bool_type, has_extractor, is_matchable, template_in, pattern_converter}
use Rattle.model.specs.lists.Expansions.{substituted, wrapped_pattern}
use Rattle.model.specs.lists.Formed.{pattern_type}
use Rattle.model.specs.lists.Elaborated.{most_expansions}
use Rattle.model.specs.claims.Refusals.{of_nesting, of_expansions}
use Rattle.laws_errors.specs.Steps.{Why, unknown_extractor, unknown_constant, bound_type, extractor_type, matched_constant_type, no_truth, no_integer, rebound, argument_count, no_extractor, multi_extractor, macro_argument, Step, went_on, stopped, unless, here, nothing, noting, made_step, counted_step, then_step}

-- how a pattern is read at a type, behind so many expansions
abbrev pub PatternStepping : Type 0
PatternStepping = PatternTree → ℕ → ℕ → Scope → Step TypedPattern

-- a bound name at another type is a use of it all the same
abbrev pub var_step : ℕ → List ℕ → Position → Scope → Option TypedVar → Step TypedPattern
var_step ty x at s None = here (match_bind ty (length s.vars) (match_any ty)) (bound s x ty)
var_step ty x at s (Some v) = noting (unless (v.ty == ty) (bound_type x ty v.ty) at) (here (match_var v.ty v.id) s)

-- a name that isn't new is bound all the same, at the type of what was made
abbrev pub bind_step : List ℕ → Position → Step TypedPattern → Step TypedPattern
bind_step x at (went_on None s k es) = went_on None s k es
bind_step x at (went_on (Some q) s k es) =
    went_on (Some (match_bind (pattern_type q) (length s.vars) q)) (bound s x (pattern_type q)) k (es ++ unless (not (is_some (var_of s x))) (rebound x) at)
bind_step x at (stopped l s es) = stopped l s es

-- an unknown constant's name is met
abbrev pub constant_step : ℕ → List ℕ → Position → Scope → Option ℕ → Step TypedPattern
constant_step ty x at s None = nothing (met s x) (unknown_constant x) at
constant_step ty x at s (Some own) = noting (unless (own == ty) (matched_constant_type x ty own) at) (here (match_prim own (number s.names x)) s)

-- a part for which nothing is made is left out
abbrev pub with_part : Option TypedPattern → TypedPatterns → TypedPatterns
with_part None rest = rest
with_part (Some q) rest = typed_pattern_and q rest

-- what a template becomes with the arguments. Nothing more is wrong where it uses more than there are: their number is
abbrev pub template_step : PatternStepping → ℕ → ℕ → Scope → Option PatternTree → Step TypedPattern
template_step deeper ty n s None = went_on None s 0 []
template_step deeper ty n s (Some p) = deeper p ty n s

-- why a pattern may not use a term
abbrev pub why_not_matched : List ℕ → TermKindEntry → Why
why_not_matched x kind = if has_extractor kind then multi_extractor x else no_extractor x

-- the term itself, behind what is wrong with its use: it isn't one that a pattern may use
abbrev pub term_step : Bool → PatternStepping → Name → PatternTrees → Position → ℕ → ℕ → Scope → TermEntry → (List ℕ → Step TypedPatterns) → Option PatternTree → Step TypedPattern
term_step multi deeper name args at ty n s t parts (Some template) = template_step deeper ty n s (substituted (pattern_list args) template)
term_step multi deeper name args at ty n s t parts None = noting (unless (is_matchable multi t.kind) (why_not_matched name.text t.kind) at) (made_step (match_term t.ret_ty t.id) (parts t.arg_tys))

-- its template or itself, behind a wrong number of arguments
abbrev pub use_step : Bool → PatternStepping → Name → PatternTrees → Position → ℕ → ℕ → Scope → TermEntry → (List ℕ → Step TypedPatterns) → Option PatternTree → Step TypedPattern
use_step multi deeper name args at ty n s t parts template =
    noting (unless (length (pattern_list args) == length t.arg_tys) (argument_count name.text (length (pattern_list args)) (length t.arg_tys)) at)
    (term_step multi deeper name args at ty n s t parts template)

-- inside a converter's use; or itself all the same, behind a wrong type
abbrev pub converted_step : Setting → Bool → PatternStepping → Name → PatternTrees → Position → ℕ → ℕ → Scope → TermEntry → (List ℕ → Step TypedPatterns) → Option TermEntry → Step TypedPattern
converted_step e multi deeper name args at ty n s t parts (Some c) = deeper (wrapped_pattern s c at (term_pattern name args at)) ty n s
converted_step e multi deeper name args at ty n s t parts None =
    noting (unless false (extractor_type name.text ty t.ret_ty) at) (use_step multi deeper name args at ty n s t parts (template_in e t.kind))

-- the use of a term, where there is one of the name; `parts` reads the arguments at types
abbrev pub found_step : Setting → Bool → PatternStepping → Name → PatternTrees → Position → ℕ → ℕ → Scope → (List ℕ → Step TypedPatterns) → Option TermEntry → Step TypedPattern
found_step e multi deeper name args at ty n s parts None = nothing s (unknown_extractor name.text) at
found_step e multi deeper name args at ty n s parts (Some t) =
    if t.ret_ty == ty then use_step multi deeper name args at ty n s t parts (template_in e t.kind)
    else converted_step e multi deeper name args at ty n s t parts (pattern_converter e t.ret_ty ty)

abbrev mutual
  pub pattern_step : Setting → Bool → PatternStepping → PatternStepping
  pattern_step e multi deeper (var_pattern name at) ty n s = var_step ty name.text at s (var_of s name.text)
  pattern_step e multi deeper (bind_pattern name of at) ty n s = bind_step name.text at (pattern_step e multi deeper of ty n s)
  pattern_step e multi deeper (bool_pattern b at) ty n s = noting (unless (ty == bool_type) (no_truth (Some ty) b) at) (here (match_bool bool_type b) s)
  pattern_step e multi deeper (int_pattern z at) ty n s =
      noting (unless (is_atom_type (slice_get e.types ty)) (no_integer ty z) at) (here (match_int ty (reduced (slice_get e.types ty) z)) s)
  pattern_step e multi deeper (prim_pattern name at) ty n s = constant_step ty name.text at s (type_of_constant e s name.text)
  pattern_step e multi deeper (term_pattern name args at) ty n s = found_step e multi deeper name args at ty n s (λ tys. parts_step e multi deeper args tys n s) (term_of e s name.text)
  pattern_step e multi deeper (wildcard_pattern at) ty n s = here (match_any ty) s
  pattern_step e multi deeper (and_pattern parts at) ty n s = made_step (match_and ty) (each_step e multi deeper parts ty n s)
  pattern_step e multi deeper (macro_arg i at) ty n s = nothing s (macro_argument i) at

  -- patterns at types, as far as there are both
  pub parts_step : Setting → Bool → PatternStepping → PatternTrees → List ℕ → ℕ → Scope → Step TypedPatterns
  parts_step e multi deeper no_pattern tys n s = here no_typed_pattern s
  parts_step e multi deeper (pattern_and p rest) [] n s = here no_typed_pattern s
  parts_step e multi deeper (pattern_and p rest) (ty ∷ tys) n s = then_step with_part (pattern_step e multi deeper p ty n s) (λ m t k. parts_step e multi deeper rest tys (n + k) t)

  pub each_step : Setting → Bool → PatternStepping → PatternTrees → ℕ → ℕ → Scope → Step TypedPatterns
  each_step e multi deeper no_pattern ty n s = here no_typed_pattern s
  each_step e multi deeper (pattern_and p rest) ty n s = then_step with_part (pattern_step e multi deeper p ty n s) (λ m t k. each_step e multi deeper rest ty (n + k) t)

-- what expansions make: none may nest any more, or there were as many as may be, or one more is counted
abbrev pub deeper_step : Setting → Bool → ℕ → PatternStepping
deeper_step e multi zero p ty n s = stopped of_nesting s []
deeper_step e multi (suc d) p ty n s =
    if nat_le most_expansions n then stopped of_expansions s [] else counted_step (pattern_step e multi (deeper_step e multi d) p ty (suc n) s)
