-- What patterns and pure expressions leave as it was: the impure calls that a visit met; and what any expression adds to them.
use Rattle.std.proofs.Common.{◌≡◌, ℕ, List, [], ◌∷◌, ◌++◌, refl, sym, ap, ◌∙◌, append-nil, append_assoc, arith}
use Rattle.std.proofs.lemmas.Grind.{common_steps}
use Rattle.model.specs.rules.Program.{Program, Kind, kind}
use Rattle.model.specs.rules.Typed.{TypedPattern, TypedExpr, make_term, make_var, make_let, TypedExprs, no_typed_expr, typed_expr_and, TypedLets, no_typed_let, typed_let_and, TypedIfLet}
use Rattle.model.specs.sites.Sites.{SiteTerm}
use Rattle.model.specs.visits.Demands.{Visit, site_term_eq, equating, visit_pattern, ValuedAll, visit_term, visit_expr, visit_exprs, visit_lets, unwraps, asking_all, visit_args, visit_iflets}
use Rattle.model.specs.sites.DemandedGates.{IsPureExpr, ArePureExprs, ArePureLets, ArePureIfLets}
use Rattle.laws_sites.proofs.AskedSites.{equated}
use Rattle.model.proofs.Either.{either}
use Rattle.laws_sites.proofs.VisitInvariants.{KeptByTests, pattern_kept, asking_kept, args_kept, expr_kept, exprs_kept, lets_kept}

-- 1. the impure calls met, and their number, stay
pub record KeepsCalls (v w : Visit) : Type 0 where
  pub count : w.impure_calls ≡ v.impure_calls
  pub impure : w.demands.impure ≡ v.demands.impure

pub then_keeps_calls : (u v w : Visit) → KeepsCalls u v → KeepsCalls v w → KeepsCalls u w
then_keeps_calls u v w a b = record { count = b.count ∙ a.count; impure = b.impure ∙ a.impure }

equating_keeps : (a b : SiteTerm) (v : Visit) → KeepsCalls v (equating a b v)
equating_keeps a b v = either (KeepsCalls v) (site_term_eq a b) v (equated a b v) (grind arith) (record { count = refl; impure = refl })

module _ (p : Program) where
  tests_keep : (v : Visit) → KeptByTests p (KeepsCalls v)
  tests_keep v = grind (arith, common_steps, then_keeps_calls, equating_keeps)

  mutual
    pub pure_keeps : (x : TypedExpr) (v : Visit) → IsPureExpr p x → KeepsCalls v (visit_expr p x v).visit
    pure_keeps (make_term ty t args) v h =
        let a = visit_exprs p args v in then_keeps_calls v a.visit (visit_term (kind p t) t a).visit (pures_keep args v h.1) (grind (arith, common_steps))
    pure_keeps (make_var ty x) v h = grind arith
    pure_keeps (make_let ty defs body) v h = let w = visit_lets p defs v in then_keeps_calls v w (visit_expr p body w).visit (pure_lets_keep defs v h.0) (pure_keeps body w h.1)
    pure_keeps _ v h = record { count = refl; impure = refl }

    pures_keep : (xs : TypedExprs) (v : Visit) → ArePureExprs p xs → KeepsCalls v (visit_exprs p xs v).visit
    pures_keep no_typed_expr v h = grind arith
    pures_keep (typed_expr_and x xs) v h = let w = (visit_expr p x v).visit in then_keeps_calls v w (visit_exprs p xs w).visit (pure_keeps x v h.0) (pures_keep xs w h.1)

    pure_lets_keep : (ds : TypedLets) (v : Visit) → ArePureLets p ds → KeepsCalls v (visit_lets p ds v)
    pure_lets_keep no_typed_let v h = grind arith
    pure_lets_keep (typed_let_and x ty value rest) v h = grind (arith, common_steps, pure_keeps value v h.0, pure_lets_keep rest, then_keeps_calls)

  pub args_keep : (i : ℕ) (qs : List TypedPattern) (v : Visit) → KeepsCalls v (visit_args p i qs v)
  args_keep i qs v = args_kept p (KeepsCalls v) (tests_keep v) (λ ts w k. record { count = k.count; impure = k.impure }) i qs v (grind arith)

  pub iflets_keep : (is : List TypedIfLet) (v : Visit) → ArePureIfLets p is → KeepsCalls v (visit_iflets p is v)
  iflets_keep [] v h = grind arith
  iflets_keep (i ∷ is) v h =
      let a = visit_expr p i.rhs v in
      let u = asking_all (unwraps a.site) a.visit in
      let w = visit_pattern p i.lhs a.site u in
      then_keeps_calls v w (visit_iflets p is w)
      (pattern_kept p (KeepsCalls v) (tests_keep v) i.lhs a.site u (asking_kept p (KeepsCalls v) (tests_keep v) (unwraps a.site) a.visit (pure_keeps i.rhs v h.0)))
      (iflets_keep is w h.1)

-- 2. what an expression adds
pub record AddsCalls (v w : Visit) : Type 0 where
  pub new : List SiteTerm
  pub impure : w.demands.impure ≡ v.demands.impure ++ new

abbrev pub adds_kept : (v w : Visit) → w.demands.impure ≡ v.demands.impure → AddsCalls v w
adds_kept v w h = record { new = []; impure = h ∙ sym (append-nil v.demands.impure) }

abbrev pub then_adds_calls : (u v w : Visit) → AddsCalls u v → AddsCalls v w → AddsCalls u w
then_adds_calls u v w a b = record { new = a.new ++ b.new; impure = b.impure ∙ ap (λ l. l ++ b.new) a.impure ∙ append_assoc u.demands.impure a.new b.new }

pub term_adds_calls : (k : Kind) (t : ℕ) (a : ValuedAll) → AddsCalls a.visit (visit_term k t a).visit
term_adds_calls k t a = grind (arith, common_steps)

module _ (p : Program) where
  pub expr_adds_calls : (x : TypedExpr) (v : Visit) → AddsCalls v (visit_expr p x v).visit
  expr_adds_calls x v = expr_kept p (AddsCalls v) (grind (arith, common_steps, term_adds_calls)) x v (adds_kept v v refl)

  pub exprs_add_calls : (xs : TypedExprs) (v : Visit) → AddsCalls v (visit_exprs p xs v).visit
  exprs_add_calls xs v = exprs_kept p (AddsCalls v) (grind (arith, common_steps, term_adds_calls)) xs v (adds_kept v v refl)

  pub lets_add_calls : (ds : TypedLets) (v : Visit) → AddsCalls v (visit_lets p ds v)
  lets_add_calls ds v = lets_kept p (AddsCalls v) (grind (arith, common_steps, term_adds_calls)) ds v (adds_kept v v refl)
