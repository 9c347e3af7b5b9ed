-- What each step of a visit keeps, the visits of patterns, expressions and rules keep.
use Rattle.std.proofs.Common.{ℕ, suc, Bool, List, [], ◌∷◌, arith}
use Rattle.std.proofs.lemmas.Grind.{common_steps}
use Rattle.model.specs.rules.Program.{Program, kind}
use Rattle.model.specs.rules.Typed.{TypedPattern, match_bind, match_term, match_and, TypedPatterns, no_typed_pattern, typed_pattern_and, TypedExpr, make_term, make_let, TypedExprs, no_typed_expr, typed_expr_and, TypedLets, no_typed_let, typed_let_and, TypedIfLet, TypedRule}
use Rattle.model.specs.sites.Sites.{Constraint, is_present, SiteTerm, argument}
use Rattle.model.specs.visits.Demands.{Count, Visit, visit_start, making, counting, asking, equating, binding, open_term, visit_pattern, visit_each, visit_all, Valued, ValuedAll, visit_term, visit_expr, visit_exprs, visit_lets, unwraps, asking_all, visit_args, visit_iflets, finished, visit_rule}

-- the steps of patterns keep a fact of visits
pub record KeptByTests (p : Program) (P : Visit → Type 0) : Type 0 where
  pub bound : (x : ℕ) (s : SiteTerm) (v : Visit) → P v → P (binding x s v)
  pub equal : (a b : SiteTerm) (v : Visit) → P v → P (equating a b v)
  pub asked : (s : SiteTerm) (c : Constraint) (v : Visit) → P v → P (asking s c v)
  pub counted : (c : Count) (v : Visit) → P v → P (counting c v)
  pub opened : (t : ℕ) (s : SiteTerm) (args : TypedPatterns) (v : Visit) → P v → P (open_term (kind p t) t s args v).visit

-- the steps of expressions do
pub record KeptByValues (p : Program) (P : Visit → Type 0) : Type 0 where
  pub bound : (x : ℕ) (s : SiteTerm) (v : Visit) → P v → P (binding x s v)
  pub made : (ts : List SiteTerm) (v : Visit) → P v → P (making ts v)
  pub valued : (t : ℕ) (a : ValuedAll) → P a.visit → P (visit_term (kind p t) t a).visit

module _ (p : Program) (P : Visit → Type 0) (k : KeptByTests p P) where
  mutual
    pub pattern_kept : (q : TypedPattern) (s : SiteTerm) (v : Visit) → P v → P (visit_pattern p q s v)
    pattern_kept (match_bind ty x sub) s v h = pattern_kept sub s (binding x s v) (k.bound x s v h)
    pattern_kept (match_term ty t args) s v h = let o = open_term (kind p t) t s args v in each_kept args o.inputs o.visit (k.opened t s args v h)
    pattern_kept (match_and ty subs) s v h = all_kept subs s v h
    pattern_kept q s v h = grind (arith, common_steps)

    pub each_kept : (qs : TypedPatterns) (ss : List SiteTerm) (v : Visit) → P v → P (visit_each p qs ss v)
    each_kept (typed_pattern_and q qs) (s ∷ ss) v h = each_kept qs ss (visit_pattern p q s v) (pattern_kept q s v h)
    each_kept _ _ v h = h

    pub all_kept : (qs : TypedPatterns) (s : SiteTerm) (v : Visit) → P v → P (visit_all p qs s v)
    all_kept no_typed_pattern s v h = h
    all_kept (typed_pattern_and q qs) s v h = all_kept qs s (visit_pattern p q s v) (pattern_kept q s v h)

  pub asking_kept : (ss : List SiteTerm) (v : Visit) → P v → P (asking_all ss v)
  asking_kept [] v h = h
  asking_kept (s ∷ ss) v h = asking_kept ss (asking s is_present v) (k.asked s is_present v h)

  pub args_kept : ((ts : List SiteTerm) (v : Visit) → P v → P (making ts v)) → (i : ℕ) (qs : List TypedPattern) (v : Visit) → P v → P (visit_args p i qs v)
  args_kept made i [] v h = h
  args_kept made i (q ∷ qs) v h = grind (arith, args_kept made (suc i) qs, pattern_kept q (argument i), made (argument i ∷ []), k.counted)

module _ (p : Program) (P : Visit → Type 0) (k : KeptByValues p P) where
  mutual
    pub expr_kept : (x : TypedExpr) (v : Visit) → P v → P (visit_expr p x v).visit
    expr_kept (make_term ty t args) v h = k.valued t (visit_exprs p args v) (exprs_kept args v h)
    expr_kept (make_let ty ds body) v h = expr_kept body (visit_lets p ds v) (lets_kept ds v h)
    expr_kept x v h = grind (arith, common_steps)

    pub exprs_kept : (xs : TypedExprs) (v : Visit) → P v → P (visit_exprs p xs v).visit
    exprs_kept no_typed_expr v h = h
    exprs_kept (typed_expr_and x xs) v h = exprs_kept xs (visit_expr p x v).visit (expr_kept x v h)

    pub lets_kept : (ds : TypedLets) (v : Visit) → P v → P (visit_lets p ds v)
    lets_kept no_typed_let v h = h
    lets_kept (typed_let_and x ty value rest) v h = grind (arith, common_steps, lets_kept rest, expr_kept value v h)

  pub finished_kept : (b : Bool) (a : Valued) → P a.visit → P (finished b a).visit
  finished_kept b a h = grind (arith, common_steps)

module _ (p : Program) (P : Visit → Type 0) (tests : KeptByTests p P) (values : KeptByValues p P) where
  pub iflet_kept : (i : TypedIfLet) (v : Visit) → P v → P (visit_pattern p i.lhs (visit_expr p i.rhs v).site (asking_all (unwraps (visit_expr p i.rhs v).site) (visit_expr p i.rhs v).visit))
  iflet_kept i v h = grind (arith, common_steps, pattern_kept, asking_kept, expr_kept)

  pub iflets_kept : (is : List TypedIfLet) (v : Visit) → P v → P (visit_iflets p is v)
  iflets_kept [] v h = h
  iflets_kept (i ∷ is) v h = grind (arith, common_steps, iflets_kept is, iflet_kept)

  -- so a rule's whole visit keeps it
  pub rule_kept : (r : TypedRule) → P visit_start → P (visit_rule p r).visit
  rule_kept r h = grind (arith, common_steps, finished_kept, expr_kept, iflets_kept, args_kept)
