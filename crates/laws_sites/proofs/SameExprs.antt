-- Two visits that name the sites of variables alike name an expression's site alike, where it calls pure terms alone.
use Rattle.std.proofs.Common.{◌≡◌, ℕ, ◌==◌, true, false, List, [], ◌∷◌, Some, is_some, slice_get, refl, sym, ap, ap₂, subst, ◌∙◌, arith}
use Rattle.std.proofs.lemmas.Bool.{and_parts, false≢true}
use Rattle.std.proofs.lemmas.Grind.{common_steps}
use Rattle.model.specs.rules.Meaning.{look}
use Rattle.model.specs.lists.Tables.{TermEntry}
use Rattle.model.specs.rules.Program.{Program, Kind, a_variant, a_struct, a_call, unknown, kind, flags_of}
use Rattle.model.specs.sites.Sites.{SiteTerm, constructor_call, variant_made, struct_made, no_site, SiteTerms, site_term_and}
use Rattle.model.specs.rules.Typed.{TypedExpr, make_term, make_var, make_bool, make_int, make_prim, make_let, TypedExprs, no_typed_expr, typed_expr_and, TypedLets, no_typed_let, typed_let_and}
use Rattle.model.specs.visits.Demands.{Visit, binding, or_no_site, ValuedAll, call_result, visit_term, visit_expr, visit_exprs, visit_lets}
use Rattle.model.specs.lists.Setting.{expr_type, has_constructor}
use Rattle.model.specs.lists.Formed.{var_type, is_formed_expr, are_formed_args, formed_lets}
use Rattle.model.specs.sites.DemandedGates.{IsPureExpr, ArePureExprs, ArePureLets}
use Rattle.model.proofs.Elements.{some_is}
use Rattle.model.proofs.Options.{is_there}
use Rattle.laws_sites.proofs.AskedSites.{Same, then_same, same_binding}
use Rattle.laws_sites.proofs.Patterns.{from_then, from_new}
use Rattle.laws_sites.proofs.WithSites.{term_binds}
use Rattle.laws_typing.proofs.FormedParts.{from_if, has_type, from_vars}

-- more variables can be used
abbrev pub AreWithin : List (ℕ × ℕ) → List (ℕ × ℕ) → Type 0
AreWithin vars more = (x ty : ℕ) → var_type vars x ≡ Some ty → var_type more x ≡ Some ty

pub within_new : (x ty : ℕ) (vars : List (ℕ × ℕ)) → is_some (var_type vars x) ≡ false → AreWithin vars ((x, ty) ∷ vars)
within_new x ty vars new y u h = grind (arith, common_steps)

same_within : (vars more : List (ℕ × ℕ)) (v w : Visit) → AreWithin vars more → Same more v w → Same vars v w
same_within vars more v w f s x h = let t = is_there (var_type vars x) h in s x (ap is_some (f x t.0 t.1))

-- what a let's definition is
pub from_let : (p : Program) (x ty : ℕ) (value : TypedExpr) (rest : TypedLets) (vars more : List (ℕ × ℕ)) → formed_lets p (typed_let_and x ty value rest) vars ≡ Some more
    → (expr_type value ≡ ty) × (is_formed_expr p value vars ≡ true) × (is_some (var_type vars x) ≡ false) × (formed_lets p rest ((x, ty) ∷ vars) ≡ Some more)
from_let p x ty value rest vars more f = grind (arith, common_steps, from_if, from_then, from_new, and_parts)

pub lets_within : (p : Program) (ds : TypedLets) (vars more : List (ℕ × ℕ)) → formed_lets p ds vars ≡ Some more → AreWithin vars more
lets_within p no_typed_let vars more f x ty h = subst (λ vs. var_type vs x ≡ Some ty) (some_is vars more f) h
lets_within p (typed_let_and x ty value rest) vars more f y u h =
    let a = from_let p x ty value rest vars more f in lets_within p rest ((x, ty) ∷ vars) more a.3 y u (within_new x ty vars a.2 y u h)

-- what a term's expression is
pub record TermParts (p : Program) (ty t : ℕ) (args : TypedExprs) (vars : List (ℕ × ℕ)) : Type 0 where
  pub entry : TermEntry
  pub there : slice_get p.terms t ≡ Some entry
  pub ret : entry.ret_ty ≡ ty
  pub called : has_constructor entry.kind ≡ true
  pub formed : are_formed_args p args entry.arg_tys vars ≡ true

pub from_term : (p : Program) (ty t : ℕ) (args : TypedExprs) (vars : List (ℕ × ℕ)) → is_formed_expr p (make_term ty t args) vars ≡ true → TermParts p ty t args vars
from_term p ty t args vars f = grind (arith, common_steps, and_parts)

-- what arguments are
pub from_args : (p : Program) (x : TypedExpr) (xs : TypedExprs) (ty : ℕ) (tys : List ℕ) (vars : List (ℕ × ℕ)) → are_formed_args p (typed_expr_and x xs) (ty ∷ tys) vars ≡ true
    → (expr_type x ≡ ty) × (is_formed_expr p x vars ≡ true) × (are_formed_args p xs tys vars ≡ true)
from_args p x xs ty tys vars f = grind (arith, common_steps, and_parts)

-- what a let's body is
pub from_body : (p : Program) (ty : ℕ) (ds : TypedLets) (body : TypedExpr) (vars : List (ℕ × ℕ)) → is_formed_expr p (make_let ty ds body) vars ≡ true
    → (more : List (ℕ × ℕ)) × (formed_lets p ds vars ≡ Some more) × (expr_type body ≡ ty) × (is_formed_expr p body more ≡ true)
from_body p ty ds body vars f = grind (arith, common_steps, from_vars, and_parts)

mutual
  pub expr_keeps : (p : Program) (x : TypedExpr) (v : Visit) (vars : List (ℕ × ℕ)) → is_formed_expr p x vars ≡ true → Same vars v (visit_expr p x v).visit
  expr_keeps p (make_term ty t args) v vars f y i =
      let a = from_term p ty t args vars f in
      ap (λ vs. or_no_site (look (λ k. k == y) vs)) (term_binds (kind p t) t (visit_exprs p args v)) ∙ exprs_keep p args v a.entry.arg_tys vars a.formed y i
  expr_keeps p (make_let ty ds body) v vars f y i =
      let a = from_body p ty ds body vars f in
      let w = visit_lets p ds v in
      then_same vars v w (visit_expr p body w).visit (lets_keep p ds v vars a.0 a.1)
      (same_within vars a.0 w (visit_expr p body w).visit (lets_within p ds vars a.0 a.1) (expr_keeps p body w a.0 a.3)) y i
  expr_keeps p _ v vars f y i = refl

  pub exprs_keep : (p : Program) (xs : TypedExprs) (v : Visit) (tys : List ℕ) (vars : List (ℕ × ℕ)) → are_formed_args p xs tys vars ≡ true → Same vars v (visit_exprs p xs v).visit
  exprs_keep p no_typed_expr v [] vars f y i = refl
  exprs_keep p no_typed_expr v (ty ∷ tys) vars f y i = absurd (false≢true f)
  exprs_keep p (typed_expr_and x xs) v [] vars f y i = absurd (false≢true f)
  exprs_keep p (typed_expr_and x xs) v (ty ∷ tys) vars f y i = grind (arith, common_steps, expr_keeps p x v vars, exprs_keep p xs, from_args, then_same)

  pub lets_keep : (p : Program) (ds : TypedLets) (v : Visit) (vars more : List (ℕ × ℕ)) → formed_lets p ds vars ≡ Some more → Same vars v (visit_lets p ds v)
  lets_keep p no_typed_let v vars more f y i = refl
  lets_keep p (typed_let_and x ty value rest) v vars more f y i =
      let a = from_let p x ty value rest vars more f in
      let b = visit_expr p value v in
      let w = binding x b.site b.visit in
      then_same vars v w (visit_lets p rest w) (then_same vars v b.visit w (expr_keeps p value v vars a.1) (same_binding vars x b.site b.visit a.2))
      (same_within vars ((x, ty) ∷ vars) w (visit_lets p rest w) (within_new x ty vars a.2) (lets_keep p rest w ((x, ty) ∷ vars) more a.3)) y i

-- 2. two visits
-- the site of a pure term's expression
abbrev pub term_site : Kind → ℕ → SiteTerms → SiteTerm
term_site (a_variant ty variant) t ss = variant_made ty variant ss
term_site (a_struct ty) t ss = struct_made ty ss
term_site (a_call flags infallible) t ss = call_result flags (constructor_call t ss 0)
term_site unknown t ss = no_site

pub pure_site : (k : Kind) (t : ℕ) (a : ValuedAll) → (flags_of k).pure ≡ true → (visit_term k t a).site ≡ term_site k t a.sites
pure_site k t a h = grind (arith, common_steps)

-- after an expression they still do
pub after_alike : (p : Program) (x : TypedExpr) (v w : Visit) (vars : List (ℕ × ℕ)) → is_formed_expr p x vars ≡ true → Same vars v w → Same vars (visit_expr p x v).visit (visit_expr p x w).visit
after_alike p x v w vars f s y i = expr_keeps p x w vars f y i ∙ s y i ∙ sym (expr_keeps p x v vars f y i)

-- a binding of one variable to one site in both
pub bound_alike : (x ty : ℕ) (s t : SiteTerm) (vars : List (ℕ × ℕ)) (v w : Visit) → t ≡ s → Same vars v w → Same ((x, ty) ∷ vars) (binding x s v) (binding x t w)
bound_alike x ty s t vars v w q f y i = grind (arith, common_steps)

mutual
  pub expr_alike : (p : Program) (x : TypedExpr) (v w : Visit) (vars : List (ℕ × ℕ)) → is_formed_expr p x vars ≡ true → IsPureExpr p x → Same vars v w → (visit_expr p x w).site ≡ (visit_expr p x v).site
  expr_alike p (make_term ty t args) v w vars f h s = grind (arith, common_steps, exprs_alike p args v w, from_term, pure_site)
  expr_alike p (make_var ty x) v w vars f h s = s x (has_type (var_type vars x) ty f)
  expr_alike p (make_bool ty b) v w vars f h s = refl
  expr_alike p (make_int ty z) v w vars f h s = refl
  expr_alike p (make_prim ty name) v w vars f h s = refl
  expr_alike p (make_let ty ds body) v w vars f h s =
      let a = from_body p ty ds body vars f in
      expr_alike p body (visit_lets p ds v) (visit_lets p ds w) a.0 a.3 h.1 (lets_alike p ds v w vars a.0 a.1 h.0 s)

  pub exprs_alike : (p : Program) (xs : TypedExprs) (v w : Visit) (tys : List ℕ) (vars : List (ℕ × ℕ)) → are_formed_args p xs tys vars ≡ true → ArePureExprs p xs → Same vars v w
      → (visit_exprs p xs w).sites ≡ (visit_exprs p xs v).sites
  exprs_alike p no_typed_expr v w [] vars f h s = refl
  exprs_alike p (typed_expr_and x xs) v w (ty ∷ tys) vars f h s =
      let a = from_args p x xs ty tys vars f in
      ap₂ site_term_and (expr_alike p x v w vars a.1 h.0 s) (exprs_alike p xs (visit_expr p x v).visit (visit_expr p x w).visit tys vars a.2 h.1 (after_alike p x v w vars a.1 s))
  exprs_alike p _ v w _ vars f h s = absurd (false≢true f)

  pub lets_alike : (p : Program) (ds : TypedLets) (v w : Visit) (vars more : List (ℕ × ℕ)) → formed_lets p ds vars ≡ Some more → ArePureLets p ds → Same vars v w
      → Same more (visit_lets p ds v) (visit_lets p ds w)
  lets_alike p no_typed_let v w vars more f h s = subst (λ vs. Same vs v w) (some_is vars more f) s
  lets_alike p (typed_let_and x ty value rest) v w vars more f h s = grind (arith, lets_alike p rest, expr_alike p value v w vars, from_let, bound_alike, after_alike)
