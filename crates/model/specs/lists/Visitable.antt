-- Which typed rules can be visited: terms have the extractor or constructor that is used and as many parts as arguments,
-- and each variable is bound before it is used, and not bound twice in patterns. Types aren't asked.
use Rattle.std.specs.Prelude.{ℕ, suc, Bool, true, ◌&&◌, not, List, [], ◌∷◌, length, slice_get}
use Rattle.std.specs.Bool.{◌==◌}
use Rattle.model.specs.lists.Formed.{of_entry}
use Rattle.model.specs.lists.Setting.{has_constructor, has_extractor}
use Rattle.model.specs.lists.Tables.{TermEntry}
use Rattle.model.specs.rules.Typed.{TypedPattern, match_bind, match_var, match_bool, match_int, match_prim, match_term, match_any, match_and, TypedPatterns, no_typed_pattern, typed_pattern_and, TypedExpr, make_term, make_var, make_bool, make_int, make_prim, make_let, TypedExprs, no_typed_expr, typed_expr_and, TypedLets, no_typed_let, typed_let_and, TypedIfLet, TypedRule}
use Rattle.model.specs.visits.Demands.{pattern_count}
use Rattle.model.specs.trees.Places.{is_in}

abbrev pub expr_count : TypedExprs → ℕ
expr_count no_typed_expr = 0
expr_count (typed_expr_and e rest) = suc (expr_count rest)

-- a term that patterns take apart into n parts, and one that expressions make of n parts
abbrev pub opens_into : List TermEntry → ℕ → ℕ → Bool
opens_into terms term n = of_entry (slice_get terms term) (λ e. has_extractor e.kind && (length e.arg_tys == n))

abbrev pub is_made_of : List TermEntry → ℕ → ℕ → Bool
is_made_of terms term n = of_entry (slice_get terms term) (λ e. has_constructor e.kind && (length e.arg_tys == n))

abbrev mutual
  -- the variables that are bound after a pattern
  pub bound_after : TypedPattern → List ℕ → List ℕ
  bound_after (match_bind ty x of) bound = bound_after of (x ∷ bound)
  bound_after (match_var ty x) bound = bound
  bound_after (match_bool ty b) bound = bound
  bound_after (match_int ty z) bound = bound
  bound_after (match_prim ty name) bound = bound
  bound_after (match_term ty term args) bound = bound_after_parts args bound
  bound_after (match_any ty) bound = bound
  bound_after (match_and ty parts) bound = bound_after_parts parts bound

  pub bound_after_parts : TypedPatterns → List ℕ → List ℕ
  bound_after_parts no_typed_pattern bound = bound
  bound_after_parts (typed_pattern_and q rest) bound = bound_after_parts rest (bound_after q bound)

abbrev mutual
  -- whether a pattern can be visited, where these variables are bound; one is bound before its subpattern
  pub is_visitable_pattern : List TermEntry → TypedPattern → List ℕ → Bool
  is_visitable_pattern terms (match_bind ty x of) bound = not (is_in x bound) && is_visitable_pattern terms of (x ∷ bound)
  is_visitable_pattern terms (match_var ty x) bound = is_in x bound
  is_visitable_pattern terms (match_bool ty b) bound = true
  is_visitable_pattern terms (match_int ty z) bound = true
  is_visitable_pattern terms (match_prim ty name) bound = true
  is_visitable_pattern terms (match_term ty term args) bound = opens_into terms term (pattern_count args) && are_visitable_parts terms args bound
  is_visitable_pattern terms (match_any ty) bound = true
  is_visitable_pattern terms (match_and ty parts) bound = are_visitable_parts terms parts bound

  pub are_visitable_parts : List TermEntry → TypedPatterns → List ℕ → Bool
  are_visitable_parts terms no_typed_pattern bound = true
  are_visitable_parts terms (typed_pattern_and q rest) bound = is_visitable_pattern terms q bound && are_visitable_parts terms rest (bound_after q bound)

-- the variables that are bound after a let's definitions
abbrev pub bound_after_lets : TypedLets → List ℕ → List ℕ
bound_after_lets no_typed_let bound = bound
bound_after_lets (typed_let_and x ty value rest) bound = bound_after_lets rest (x ∷ bound)

abbrev mutual
  -- whether an expression can be visited, where these variables are bound
  pub is_visitable_expr : List TermEntry → TypedExpr → List ℕ → Bool
  is_visitable_expr terms (make_term ty term args) bound = is_made_of terms term (expr_count args) && are_visitable_args terms args bound
  is_visitable_expr terms (make_var ty x) bound = is_in x bound
  is_visitable_expr terms (make_bool ty b) bound = true
  is_visitable_expr terms (make_int ty z) bound = true
  is_visitable_expr terms (make_prim ty name) bound = true
  is_visitable_expr terms (make_let ty defs body) bound = are_visitable_lets terms defs bound && is_visitable_expr terms body (bound_after_lets defs bound)

  pub are_visitable_args : List TermEntry → TypedExprs → List ℕ → Bool
  are_visitable_args terms no_typed_expr bound = true
  are_visitable_args terms (typed_expr_and e rest) bound = is_visitable_expr terms e bound && are_visitable_args terms rest bound

  pub are_visitable_lets : List TermEntry → TypedLets → List ℕ → Bool
  are_visitable_lets terms no_typed_let bound = true
  are_visitable_lets terms (typed_let_and x ty value rest) bound = is_visitable_expr terms value bound && are_visitable_lets terms rest (x ∷ bound)

-- the arguments of a rule
abbrev pub bound_after_list : List TypedPattern → List ℕ → List ℕ
bound_after_list [] bound = bound
bound_after_list (q ∷ rest) bound = bound_after_list rest (bound_after q bound)

abbrev pub are_visitable_list : List TermEntry → List TypedPattern → List ℕ → Bool
are_visitable_list terms [] bound = true
are_visitable_list terms (q ∷ rest) bound = is_visitable_pattern terms q bound && are_visitable_list terms rest (bound_after q bound)

-- if-lets, each expression before its pattern
abbrev pub bound_after_iflets : List TypedIfLet → List ℕ → List ℕ
bound_after_iflets [] bound = bound
bound_after_iflets (i ∷ rest) bound = bound_after_iflets rest (bound_after i.lhs bound)

abbrev pub are_visitable_iflets : List TermEntry → List TypedIfLet → List ℕ → Bool
are_visitable_iflets terms [] bound = true
are_visitable_iflets terms (i ∷ rest) bound =
    is_visitable_expr terms i.rhs bound && (is_visitable_pattern terms i.lhs bound && are_visitable_iflets terms rest (bound_after i.lhs bound))

-- whether a rule can be visited: as many arguments as its term has, if-lets in order, the right side
abbrev pub is_visitable_rule : List TermEntry → TypedRule → Bool
is_visitable_rule terms r =
    of_entry (slice_get terms r.root_term) (λ e. length e.arg_tys == length r.args)
    && (are_visitable_list terms r.args []
    && (are_visitable_iflets terms r.iflets (bound_after_list r.args [])
    && is_visitable_expr terms r.rhs (bound_after_iflets r.iflets (bound_after_list r.args []))))
