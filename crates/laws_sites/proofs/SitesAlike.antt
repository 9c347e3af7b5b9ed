-- Two visits that name the sites of variables alike and met as many impure calls name an expression's site alike.
use Rattle.std.proofs.Common.{◌≡◌, ℕ, true, List, ◌∷◌, Some, refl, ap₂, subst, arith}
use Rattle.std.proofs.lemmas.Grind.{common_steps}
use Rattle.model.specs.rules.Program.{Program, Kind, kind}
use Rattle.model.specs.sites.Sites.{site_term_and}
use Rattle.model.specs.rules.Typed.{TypedExpr, make_term, make_var, make_let, TypedExprs, typed_expr_and, TypedLets, no_typed_let, typed_let_and}
use Rattle.model.specs.visits.Demands.{Visit, Valued, ValuedAll, visit_term, visit_expr, visit_exprs, visit_lets}
use Rattle.model.specs.lists.Formed.{var_type, is_formed_expr, are_formed_args, formed_lets}
use Rattle.model.proofs.Elements.{some_is}
use Rattle.laws_sites.proofs.AskedSites.{Same}
use Rattle.laws_sites.proofs.SameExprs.{from_let, from_term, from_args, from_body, after_alike, bound_alike}
use Rattle.laws_typing.proofs.FormedParts.{has_type}

-- one site, and as many impure calls
pub record SitedAlike (a b : Valued) : Type 0 where
  pub site : b.site ≡ a.site
  pub count : b.visit.impure_calls ≡ a.visit.impure_calls

pub record AllSitedAlike (a b : ValuedAll) : Type 0 where
  pub sites : b.sites ≡ a.sites
  pub count : b.visit.impure_calls ≡ a.visit.impure_calls

term_sited : (k : Kind) (t : ℕ) (a b : ValuedAll) → AllSitedAlike a b → SitedAlike (visit_term k t a) (visit_term k t b)
term_sited k t a b h = grind (arith, common_steps)

mutual
  pub expr_sited : (p : Program) (x : TypedExpr) (v w : Visit) (vars : List (ℕ × ℕ)) → is_formed_expr p x vars ≡ true → Same vars v w → w.impure_calls ≡ v.impure_calls → SitedAlike (visit_expr p x v) (visit_expr p x w)
  expr_sited p (make_term ty t args) v w vars f s n =
      let a = from_term p ty t args vars f in term_sited (kind p t) t (visit_exprs p args v) (visit_exprs p args w) (exprs_sited p args v w a.entry.arg_tys vars a.formed s n)
  expr_sited p (make_var ty x) v w vars f s n = record { site = s x (has_type (var_type vars x) ty f); count = n }
  expr_sited p (make_let ty ds body) v w vars f s n =
      let a = from_body p ty ds body vars f in
      let r = lets_sited p ds v w vars a.0 a.1 s n in
      expr_sited p body (visit_lets p ds v) (visit_lets p ds w) a.0 a.3 r.0 r.1
  expr_sited p _ v w vars f s n = record { site = refl; count = n }

  pub exprs_sited : (p : Program) (xs : TypedExprs) (v w : Visit) (tys : List ℕ) (vars : List (ℕ × ℕ)) → are_formed_args p xs tys vars ≡ true → Same vars v w → w.impure_calls ≡ v.impure_calls
      → AllSitedAlike (visit_exprs p xs v) (visit_exprs p xs w)
  exprs_sited p (typed_expr_and x xs) v w (ty ∷ tys) vars f s n =
      let a = from_args p x xs ty tys vars f in
      let r = expr_sited p x v w vars a.1 s n in
      let q = exprs_sited p xs (visit_expr p x v).visit (visit_expr p x w).visit tys vars a.2 (after_alike p x v w vars a.1 s) r.count in
      record { sites = ap₂ site_term_and r.site q.sites; count = q.count }
  exprs_sited p h v w k vars f s n = grind (arith, common_steps)

  pub lets_sited : (p : Program) (ds : TypedLets) (v w : Visit) (vars more : List (ℕ × ℕ)) → formed_lets p ds vars ≡ Some more → Same vars v w → w.impure_calls ≡ v.impure_calls
      → Same more (visit_lets p ds v) (visit_lets p ds w) × ((visit_lets p ds w).impure_calls ≡ (visit_lets p ds v).impure_calls)
  lets_sited p no_typed_let v w vars more f s n = (subst (λ vs. Same vs v w) (some_is vars more f) s, n)
  lets_sited p (typed_let_and x ty value rest) v w vars more f s n = grind (arith, expr_sited p value v w vars, lets_sited p rest, from_let, bound_alike, after_alike)
