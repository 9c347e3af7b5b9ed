-- An expression's run, made of the runs of its parts.
use Rattle.std.proofs.Common.{◌≡◌, ℕ, ◌+◌, ◌<◌, ◌≤◌, IsTrue, length, get_or, drop, inl, inr, List, [], ◌∷◌, ◌++◌, Result, Ok, Err, Box, alloc_error, refl, ap, ◌∙◌, subst, arith}
use Rattle.std.specs.declared.alloc.Global.{Global}
use Rattle.std.proofs.lemmas.Bool.{and_parts}
use Rattle.std.proofs.lemmas.List.{drop_more, drop_all, map-append, length-append}
use Rattle.std.proofs.lemmas.Grind.{common_steps}
use Rattle.core_types.specs.declared.ids.TypeId.{TypeId}
use Rattle.core_types.specs.declared.ids.VarId.{VarId}
use Rattle.model.specs.lists.Tables.{TermEntry}
use Rattle.model.specs.rules.Typed.{TypedExpr, TypedExprs, typed_expr_and}
use Rattle.core_typed.specs.declared.exprs.Expr.{Expr}
use Rattle.core_syntax.specs.declared.visit_fault.VisitFault.{VisitFault}
use Rattle.core_syntax.specs.declared.visit_fault.VisitFault.TheVariants.{Memory}
use Rattle.model.specs.visits.Visitors.{ExprSteps}
use Rattle.core_typed.specs.ExprViews.{expr_view, expr_views, expr_parts, let_views, let_parts}
use Rattle.model.specs.visits.ExprRuns.{ExprRun, InputsRun, LetsRun}
use Rattle.model.specs.lists.Visitable.{is_visitable_expr, are_visitable_args, are_visitable_lets}
use Rattle.core_typed.specs.VisitAnswers.{type_numbers, typed_inputs}
use Rattle.model.specs.visits.Runs.{BoundIds, binds, bound_vars}
use Rattle.core_typed.specs.VisitorSteps.{no_memory}
use Rattle.core_typed.proofs.BoundVars.{bound_with, lets_same}

-- what a list of answers is, where these came before
abbrev pub after_these : {A : Type 0} → List A → Result (List A) VisitFault → Result (List A) VisitFault
after_these xs (Ok ys) = Ok (xs ++ ys)
after_these xs (Err e) = Err e

after_one : {A : Type 0} (xs : List A) (x : A) (r : Result (List A) VisitFault) → after_these xs (after_these (x ∷ []) r) ≡ after_these (xs ++ x ∷ []) r
after_one xs x r = grind (arith, common_steps)

module _ {S E : Type 0} (v : ExprSteps VisitFault S E) (terms : List TermEntry) where
  -- one argument, and the rest
  one_input : (e : TypedExpr) (rest : TypedExprs) (ty : ℕ) (tys : List ℕ) (vs : BoundIds E) (x : E) (s u : S) (r : Result (List (E × ℕ)) VisitFault) (t : S) →
      ExprRun no_memory v terms e vs s (Ok x) u → InputsRun no_memory v terms rest tys vs u r t → InputsRun no_memory v terms (typed_expr_and e rest) (ty ∷ tys) vs s (after_these ((x, ty) ∷ []) r) t
  one_input e rest ty tys vs x s u r t first h = grind (arith, common_steps)

  pub input_step : (es : List Expr) (tys : List TypeId) (i : ℕ) (d : Expr) (y : TypeId) (vs : BoundIds E) (x : E) (s u : S) (r : Result (List (E × ℕ)) VisitFault) (t : S) →
      i < length es → i < length tys → ExprRun no_memory v terms (expr_view (get_or es i d)) vs s (Ok x) u →
      InputsRun no_memory v terms (expr_parts (expr_views (drop (i + 1) es))) (type_numbers (drop (i + 1) tys)) vs u r t →
      InputsRun no_memory v terms (expr_parts (expr_views (drop i es))) (type_numbers (drop i tys)) vs s (after_these ((x, (get_or tys i y).0) ∷ []) r) t
  input_step es tys i d y vs x s u r t lt lt' first rest =
      rw (drop_more es i d lt, drop_more tys i y lt') (one_input (expr_view (get_or es i d)) _ (get_or tys i y).0 _ vs x s u r t first rest)

  pub input_stop : (es : List Expr) (tys : List TypeId) (i : ℕ) (d : Expr) (y : TypeId) (vs : BoundIds E) (s : S) (f : VisitFault) (t : S) →
      i < length es → i < length tys → ExprRun no_memory v terms (expr_view (get_or es i d)) vs s (Err f) t →
      InputsRun no_memory v terms (expr_parts (expr_views (drop i es))) (type_numbers (drop i tys)) vs s (Err f) t
  input_stop es tys i d y vs s f t lt lt' first = rw (drop_more es i d lt, drop_more tys i y lt') (inr (f, first, refl))

  pub input_refused : (es : List Expr) (tys : List TypeId) (i : ℕ) (d : Expr) (y : TypeId) (vs : BoundIds E) (x : E) (s t : S) →
      i < length es → i < length tys → ExprRun no_memory v terms (expr_view (get_or es i d)) vs s (Ok x) t →
      InputsRun no_memory v terms (expr_parts (expr_views (drop i es))) (type_numbers (drop i tys)) vs s (Err (Memory alloc_error)) t
  input_refused es tys i d y vs x s t lt lt' first = rw (drop_more es i d lt, drop_more tys i y lt') (inl (x, t, first, inl (refl, refl)))

  pub input_end : (es : List Expr) (tys : List TypeId) (i : ℕ) (vs : BoundIds E) (s : S) → length es ≤ i → length tys ≤ i →
      InputsRun no_memory v terms (expr_parts (expr_views (drop i es))) (type_numbers (drop i tys)) vs s (Ok []) s
  input_end es tys i vs s h h' = rw (drop_all i es h, drop_all i tys h') (refl, refl)

  pub let_step : (ds : List (VarId × TypeId × Box Expr Global)) (i : ℕ) (d : VarId × TypeId × Box Expr Global) (vs ws : BoundIds E) (x : E) (a : Unit {0}) (s u : S) (r : Result (BoundIds E) VisitFault) (t : S) →
      i < length ds → ExprRun no_memory v terms (expr_view (get_or ds i d).2.value) vs s (Ok x) u → binds no_memory (get_or ds i d).0.0 x vs (Ok a) ws →
      LetsRun no_memory v terms (let_parts (let_views (drop (i + 1) ds))) ws u r t → LetsRun no_memory v terms (let_parts (let_views (drop i ds))) vs s r t
  let_step ds i d vs ws x a s u r t lt first b rest = grind (arith, common_steps, drop_more)

  pub let_stop : (ds : List (VarId × TypeId × Box Expr Global)) (i : ℕ) (d : VarId × TypeId × Box Expr Global) (vs : BoundIds E) (s : S) (f : VisitFault) (t : S) →
      i < length ds → ExprRun no_memory v terms (expr_view (get_or ds i d).2.value) vs s (Err f) t → LetsRun no_memory v terms (let_parts (let_views (drop i ds))) vs s (Err f) t
  let_stop ds i d vs s f t lt first = rw (drop_more ds i d lt) (inr (f, first, refl))

  pub let_refused : (ds : List (VarId × TypeId × Box Expr Global)) (i : ℕ) (d : VarId × TypeId × Box Expr Global) (vs ws : BoundIds E) (x : E) (s : S) (f : VisitFault) (t : S) →
      i < length ds → ExprRun no_memory v terms (expr_view (get_or ds i d).2.value) vs s (Ok x) t → binds no_memory (get_or ds i d).0.0 x vs (Err f) ws →
      LetsRun no_memory v terms (let_parts (let_views (drop i ds))) vs s (Err f) t
  let_refused ds i d vs ws x s f t lt first b = grind (arith, common_steps, drop_more)

-- the next of several arguments, or definitions, can be visited, and after it those that follow
pub arg_visitable : (terms : List TermEntry) (es : List Expr) (i : ℕ) (d : Expr) (ks : List ℕ) → i < length es → IsTrue (are_visitable_args terms (expr_parts (expr_views (drop i es))) ks) →
    IsTrue (is_visitable_expr terms (expr_view (get_or es i d)) ks) × IsTrue (are_visitable_args terms (expr_parts (expr_views (drop (i + 1) es))) ks)
arg_visitable terms es i d ks lt h =
    and_parts _ _ (subst (λ zs. IsTrue (are_visitable_args terms (expr_parts (expr_views zs)) ks)) (drop_more es i d lt) h)

pub let_visitable : (terms : List TermEntry) (ds : List (VarId × TypeId × Box Expr Global)) (i : ℕ) (d : VarId × TypeId × Box Expr Global) (ks : List ℕ) → i < length ds →
    IsTrue (are_visitable_lets terms (let_parts (let_views (drop i ds))) ks) → IsTrue (is_visitable_expr terms (expr_view (get_or ds i d).2.value) ks)
let_visitable terms ds i d ks lt h = grind (arith, common_steps, and_parts, drop_more)

pub lets_visitable : {E : Type 0} (terms : List TermEntry) (ds : List (VarId × TypeId × Box Expr Global)) (i : ℕ) (d : VarId × TypeId × Box Expr Global) (vs ws : BoundIds E) (x : E) (a : Unit {0}) → i < length ds →
    IsTrue (are_visitable_lets terms (let_parts (let_views (drop i ds))) (bound_vars vs)) → binds no_memory (get_or ds i d).0.0 x vs (Ok a) ws →
    IsTrue (are_visitable_lets terms (let_parts (let_views (drop (i + 1) ds))) (bound_vars ws))
lets_visitable terms ds i d vs ws x a lt h b = grind (arith, common_steps, and_parts, drop_more, lets_same, bound_with)

-- inputs met one after another
pub inputs_step : {E : Type 0} (out new : List (E × TypeId)) (x : E) (ty y : TypeId) (r : Result (List (E × ℕ)) VisitFault) → new ≡ out ++ (x, ty) ∷ [] → ty ≡ y →
    after_these (typed_inputs out) (after_these ((x, y.0) ∷ []) r) ≡ after_these (typed_inputs new) r
inputs_step {E} out new x ty y r is at = grind (arith, common_steps, after_one, map-append)

pub one_more : {A : Type 0} (out new : List A) (x : A) (i : ℕ) → new ≡ out ++ x ∷ [] → length out ≡ i → length new ≡ i + 1
one_more out new x i is h = ap length is ∙ length-append out (x ∷ []) ∙ ap (λ n. n + 1) h
