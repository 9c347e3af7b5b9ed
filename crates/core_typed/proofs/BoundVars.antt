-- Variables that are bound: what binding one changes, and that what can be visited depends on no more than which are.
use Rattle.std.proofs.Common.{◌≡◌, ℕ, Bool, cond, ◌||◌, ◌&&◌, List, [], ◌∷◌, Option, Some, is_some, refl, ap, ◌==◌, arith}
use Rattle.std.proofs.lemmas.Map.Lookups.{exact_unsigned}
use Rattle.std.proofs.lemmas.Grind.{common_steps}
use Rattle.model.specs.lists.Tables.{TermEntry}
use Rattle.model.specs.rules.Typed.{TypedPattern, match_bind, match_term, match_and, TypedPatterns, no_typed_pattern, typed_pattern_and, TypedExpr, make_term, make_let, TypedExprs, no_typed_expr, typed_expr_and, TypedLets, no_typed_let, typed_let_and}
use Rattle.model.specs.visits.Demands.{pattern_count}
use Rattle.model.specs.trees.Places.{is_in}
use Rattle.model.specs.lists.Visitable.{bound_after, bound_after_parts, bound_after_lets, is_visitable_pattern, are_visitable_parts, is_visitable_expr, are_visitable_args, are_visitable_lets, opens_into, is_made_of, expr_count}
use Rattle.model.specs.visits.Runs.{BoundIds, bound_at, bound_vars, with_bound}

same_either_way : (x y : ℕ) → (x == y) ≡ (y == x)
same_either_way x y = grind (arith, common_steps)

twice : (c r : Bool) → (c || r) ≡ (c || (c || r))
twice c r = grind (arith, common_steps)

exchanged : (b c r : Bool) → (b || (c || r)) ≡ (c || (b || r))
exchanged b c r = grind (arith, common_steps)

some_or : {X : Type 0} (c : Bool) (x : X) (o : Option X) → is_some (cond c (Some x) o) ≡ (c || is_some o)
some_or c x o = grind (arith, common_steps)

module _ {P : Type 0} where
  -- a variable has an id where it is bound
  pub found_bound : (vs : BoundIds P) (x : ℕ) → is_some (bound_at vs x) ≡ is_in x (bound_vars vs)
  found_bound [] x = refl
  found_bound (b ∷ vs) x = grind (arith, common_steps, found_bound vs x, same_either_way, some_or)

  -- what is bound after one more
  pub bound_with : (vs : BoundIds P) (x : ℕ) (id : P) (y : ℕ) → is_in y (bound_vars (with_bound vs x id)) ≡ is_in y (x ∷ bound_vars vs)
  bound_with [] x id y = refl
  bound_with (b ∷ vs) x id y = grind (arith, common_steps, bound_with vs x id y, twice, exact_unsigned, exchanged)

-- the same variables
abbrev pub SameVars : List ℕ → List ℕ → Type 0
SameVars ks ls = (y : ℕ) → is_in y ks ≡ is_in y ls

pub with_same : (x : ℕ) (ks ls : List ℕ) → SameVars ks ls → SameVars (x ∷ ks) (x ∷ ls)
with_same x ks ls h = λ y. ap (λ r. (x == y) || r) (h y)

mutual
  pub after_same : (q : TypedPattern) (ks ls : List ℕ) → SameVars ks ls → SameVars (bound_after q ks) (bound_after q ls)
  after_same (match_bind ty x of) ks ls h = after_same of (x ∷ ks) (x ∷ ls) (with_same x ks ls h)
  after_same (match_term ty term args) ks ls h = parts_after_same args ks ls h
  after_same (match_and ty parts) ks ls h = parts_after_same parts ks ls h
  after_same _ ks ls h = h

  pub parts_after_same : (qs : TypedPatterns) (ks ls : List ℕ) → SameVars ks ls → SameVars (bound_after_parts qs ks) (bound_after_parts qs ls)
  parts_after_same no_typed_pattern ks ls h = h
  parts_after_same (typed_pattern_and q rest) ks ls h = parts_after_same rest (bound_after q ks) (bound_after q ls) (after_same q ks ls h)

pub lets_after_same : (ds : TypedLets) (ks ls : List ℕ) → SameVars ks ls → SameVars (bound_after_lets ds ks) (bound_after_lets ds ls)
lets_after_same no_typed_let ks ls h = h
lets_after_same (typed_let_and x ty value rest) ks ls h = lets_after_same rest (x ∷ ks) (x ∷ ls) (with_same x ks ls h)

module _ (terms : List TermEntry) where
  mutual
    pub pattern_same : (q : TypedPattern) (ks ls : List ℕ) → SameVars ks ls → is_visitable_pattern terms q ks ≡ is_visitable_pattern terms q ls
    pattern_same (match_bind ty x of) ks ls h = rw (h x, pattern_same of (x ∷ ks) (x ∷ ls) (with_same x ks ls h)) refl
    pattern_same (match_term ty term args) ks ls h = ap (λ r. opens_into terms term (pattern_count args) && r) (parts_same args ks ls h)
    pattern_same (match_and ty parts) ks ls h = parts_same parts ks ls h
    pattern_same q ks ls h = grind arith

    pub parts_same : (qs : TypedPatterns) (ks ls : List ℕ) → SameVars ks ls → are_visitable_parts terms qs ks ≡ are_visitable_parts terms qs ls
    parts_same no_typed_pattern ks ls h = refl
    parts_same (typed_pattern_and q rest) ks ls h =
        rw (pattern_same q ks ls h, parts_same rest (bound_after q ks) (bound_after q ls) (after_same q ks ls h)) refl

  mutual
    pub expr_same : (e : TypedExpr) (ks ls : List ℕ) → SameVars ks ls → is_visitable_expr terms e ks ≡ is_visitable_expr terms e ls
    expr_same (make_term ty term args) ks ls h = ap (λ r. is_made_of terms term (expr_count args) && r) (args_same args ks ls h)
    expr_same (make_let ty defs body) ks ls h =
        rw (lets_same defs ks ls h, expr_same body (bound_after_lets defs ks) (bound_after_lets defs ls) (lets_after_same defs ks ls h)) refl
    expr_same e ks ls h = grind arith

    pub args_same : (es : TypedExprs) (ks ls : List ℕ) → SameVars ks ls → are_visitable_args terms es ks ≡ are_visitable_args terms es ls
    args_same no_typed_expr ks ls h = refl
    args_same (typed_expr_and e rest) ks ls h = rw (expr_same e ks ls h, args_same rest ks ls h) refl

    pub lets_same : (ds : TypedLets) (ks ls : List ℕ) → SameVars ks ls → are_visitable_lets terms ds ks ≡ are_visitable_lets terms ds ls
    lets_same no_typed_let ks ls h = refl
    lets_same (typed_let_and x ty value rest) ks ls h = rw (expr_same value ks ls h, lets_same rest (x ∷ ks) (x ∷ ls) (with_same x ks ls h)) refl
