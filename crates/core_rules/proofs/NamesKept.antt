-- The names of a scope stay at their numbers, whatever is typed from it.
use Rattle.std.proofs.Common.{◌≡◌, ℕ, Bool, List, [], ◌∷◌, Option, Some, slice_get, arith}
use Rattle.model.specs.lists.Syntax.{PatternTree, PatternTrees, ExprTree, ExprTrees, LetTrees}
use Rattle.model.specs.lists.Names.{with_name, IsDistinct}
use Rattle.model.specs.lists.Tables.{Flags}
use Rattle.model.specs.rules.Typed.{TypedPattern, TypedPatterns, TypedExpr, TypedExprs, TypedLets}
use Rattle.model.specs.lists.Setting.{Setting, Scope}
use Rattle.model.specs.lists.Elaborates.{ElaboratesPattern, ElaboratesParts, ElaboratesEach, binding, a_term, a_template, a_conversion, all_of, no_part, part, no_more, one_more, ElaboratesExpr, ElaboratesArgs, ElaboratesLets, a_call, converted_call, converted_variable, let_in, no_arg, an_arg, no_def, a_def}
use Rattle.model.proofs.Names.{get_kept, distinct_names}

-- names stay at their numbers, and where they stood once each does still
pub record Kept (ns ms : List (List ℕ)) : Type 0 where
  pub at : (k : ℕ) (x : List ℕ) → slice_get ns k ≡ Some x → slice_get ms k ≡ Some x
  pub once : IsDistinct ns → IsDistinct ms

pub kept_here : {ns : List (List ℕ)} → Kept ns ns
kept_here = record { at = λ k x h. h; once = λ d. d }

pub kept_on : {ns ms ls : List (List ℕ)} → Kept ns ms → Kept ms ls → Kept ns ls
kept_on a b = record { at = λ k x h. b.at k x (a.at k x h); once = λ d. b.once (a.once d) }

pub kept_with : (ns : List (List ℕ)) (x : List ℕ) → Kept ns (with_name ns x)
kept_with ns x = record { at = λ k y h. get_kept ns (x ∷ []) k y h; once = λ d. distinct_names ns (x ∷ []) d }

module _ (e : Setting) (multi : Bool) where
  mutual
    pub pattern_keeps : {d ty n : ℕ} {p : PatternTree} {s t : Scope} {q : TypedPattern} → ElaboratesPattern e multi d p ty s q t n → Kept s.names t.names
    pattern_keeps (binding {name = name} {t = t} g h) = kept_on (pattern_keeps g) (kept_with t.names name.text)
    pattern_keeps (a_term h i j k g) = parts_keep g
    pattern_keeps (a_template h i j k g) = pattern_keeps g
    pattern_keeps (a_conversion h i j g) = pattern_keeps g
    pattern_keeps (all_of g) = each_keep g
    pattern_keeps i = grind (arith, kept_with)

    pub parts_keep : {d n : ℕ} {ps : PatternTrees} {tys : List ℕ} {s t : Scope} {qs : TypedPatterns} → ElaboratesParts e multi d ps tys s qs t n → Kept s.names t.names
    parts_keep no_part = kept_here
    parts_keep (part g h) = kept_on (pattern_keeps g) (parts_keep h)

    each_keep : {d ty n : ℕ} {ps : PatternTrees} {s t : Scope} {qs : TypedPatterns} → ElaboratesEach e multi d ps ty s qs t n → Kept s.names t.names
    each_keep no_more = kept_here
    each_keep (one_more g h) = kept_on (pattern_keeps g) (each_keep h)

module _ (e : Setting) (flags : Flags) where
  mutual
    pub expr_keeps : {d n : ℕ} {ty : Option ℕ} {x : ExprTree} {s t : Scope} {q : TypedExpr} → ElaboratesExpr e flags d x ty s q t n → Kept s.names t.names
    expr_keeps (a_call h i j g) = args_keep g
    expr_keeps (converted_call h i j g) = expr_keeps g
    expr_keeps (converted_variable h i j g) = expr_keeps g
    expr_keeps (let_in g h) = kept_on (lets_keep g) (expr_keeps h)
    expr_keeps _ = kept_here

    pub args_keep : {d n : ℕ} {xs : ExprTrees} {tys : List ℕ} {s t : Scope} {qs : TypedExprs} → ElaboratesArgs e flags d xs tys s qs t n → Kept s.names t.names
    args_keep no_arg = kept_here
    args_keep (an_arg g h) = kept_on (expr_keeps g) (args_keep h)

    pub lets_keep : {d n : ℕ} {defs : LetTrees} {s t : Scope} {qs : TypedLets} → ElaboratesLets e flags d defs s qs t n → Kept s.names t.names
    lets_keep no_def = kept_here
    lets_keep (a_def {name = name} {s = s} {t = t} h g i) = kept_on (kept_with s.names name.text) (kept_on (expr_keeps g) (kept_on (kept_with t.names name.text) (lets_keep i)))
