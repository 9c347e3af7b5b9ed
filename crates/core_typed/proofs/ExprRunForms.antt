-- The visits of the forms of expressions that have parts, from the forms as the code has them: what is asked of the parts,
-- and how the whole run is made.
use Rattle.std.proofs.Common.{◌≡◌, true≢false, ℕ, suc, IsTrue, length, inl, inr, ⊎_elim, List, [], ◌∷◌, Some, Result, Ok, Err, is_ok, Vec, Box, slice_get, refl, sym, ap, ◌∙◌, subst, arith}
use Rattle.std.specs.declared.alloc.Global.{Global}
use Rattle.std.proofs.lemmas.Bool.{and_parts}
use Rattle.std.proofs.lemmas.List.{length-map}
use Rattle.std.proofs.lemmas.Grind.{common_steps}
use Rattle.core_typed.proofs.RuleRunSteps.{same_ok}
use Rattle.core_types.specs.declared.ids.TypeId.{TypeId}
use Rattle.core_types.specs.declared.ids.TermId.{TermId}
use Rattle.core_types.specs.declared.ids.VarId.{VarId}
use Rattle.core_terms.specs.declared.term.Term.{Term as CodeTerm}
use Rattle.core_terms.specs.TermViews.{term_view}
use Rattle.model.specs.lists.Tables.{TermEntry}
use Rattle.model.specs.rules.Typed.{make_term, make_let, TypedLets, no_typed_let, typed_let_and}
use Rattle.model.specs.trees.Places.{is_in}
use Rattle.core_typed.specs.declared.exprs.Expr.{Expr, Term, Let}
use Rattle.core_syntax.specs.declared.visit_fault.VisitFault.{VisitFault}
use Rattle.model.specs.visits.Visitors.{ExprSteps}
use Rattle.core_typed.specs.ExprViews.{expr_view, expr_views, expr_parts, let_views, let_parts}
use Rattle.model.specs.visits.ExprRuns.{entry_arg_types, Makes, ExprRun, InputsRun, LetsRun}
use Rattle.model.specs.lists.Visitable.{bound_after_lets, is_visitable_expr, are_visitable_args, are_visitable_lets, is_made_of, expr_count}
use Rattle.core_typed.specs.VisitAnswers.{type_numbers}
use Rattle.model.specs.visits.Runs.{BoundIds, bound_vars, with_bound}
use Rattle.core_typed.specs.VisitorSteps.{no_memory}
use Rattle.core_typed.proofs.BoundVars.{SameVars, bound_with, expr_same, lets_after_same}
use Rattle.core_typed.proofs.ExprBridges.{view-Term, view-Let}

-- the form of a term, and of a let
pub seen_call : (e : Expr) (ty : TypeId) (term : TermId) (args : Vec Expr Global) (es : List Expr) → e ≡ Term ty term args → es ≡ args.items → expr_view e ≡ make_term ty.0 term.0 (expr_parts (expr_views es))
seen_call e ty term args es h f = ap expr_view h ∙ view-Term ty term args ∙ ap (λ zs. make_term ty.0 term.0 (expr_parts (expr_views zs))) (sym f)

pub seen_let : (e : Expr) (ty : TypeId) (bindings : Vec (VarId × TypeId × Box Expr Global) Global) (body : Box Expr Global) (ds : List (VarId × TypeId × Box Expr Global)) (b : Expr) →
    e ≡ Let ty bindings body → ds ≡ bindings.items → b ≡ body.value → expr_view e ≡ make_let ty.0 (let_parts (let_views ds)) (expr_view b)
seen_let e ty bindings body ds b h f g = grind (arith, common_steps, view-Let ty bindings body)

arg_count : (es : List Expr) → expr_count (expr_parts (expr_views es)) ≡ length es
arg_count [] = refl
arg_count (e ∷ es) = ap suc (arg_count es)

-- the variables that are bound after a let's definitions
pub lets_bind : {S E : Type 0} (v : ExprSteps VisitFault S E) (terms : List TermEntry) (ds : TypedLets) (vs : BoundIds E) (s : S) (ws : BoundIds E) (t : S) → LetsRun no_memory v terms ds vs s (Ok ws) t →
    SameVars (bound_vars ws) (bound_after_lets ds (bound_vars vs))
lets_bind v terms no_typed_let vs s ws t h = λ y. ap (λ zs. is_in y (bound_vars zs)) (same_ok ws vs h.0)
lets_bind v terms (typed_let_and x ty value rest) vs s ws t h =
    ⊎_elim
    (λ p. grind (arith, common_steps, lets_bind v terms rest (with_bound vs x p.0) p.1 ws t, lets_after_same, bound_with))
    (λ e. absurd (true≢false (ap is_ok e.2)))
    h

module _ (terms : List TermEntry) where
  both_args : (e : Expr) (ty : TypeId) (term : TermId) (args : Vec Expr Global) (es : List Expr) (ks : List ℕ) → e ≡ Term ty term args → es ≡ args.items →
      IsTrue (is_visitable_expr terms (expr_view e) ks) → IsTrue (is_made_of terms term.0 (expr_count (expr_parts (expr_views es)))) × IsTrue (are_visitable_args terms (expr_parts (expr_views es)) ks)
  both_args e ty term args es ks h f c = and_parts _ _ (subst (λ z. IsTrue (is_visitable_expr terms z ks)) (seen_call e ty term args es h f) c)

  pub asks_args : (e : Expr) (ty : TypeId) (term : TermId) (args : Vec Expr Global) (es : List Expr) (ks : List ℕ) → e ≡ Term ty term args → es ≡ args.items →
      IsTrue (is_visitable_expr terms (expr_view e) ks) → IsTrue (are_visitable_args terms (expr_parts (expr_views es)) ks)
  asks_args e ty term args es ks h f c = (both_args e ty term args es ks h f c).1

  pub makes_call : (e : Expr) (ty : TypeId) (term : TermId) (args : Vec Expr Global) (es : List Expr) (ks : List ℕ) → e ≡ Term ty term args → es ≡ args.items →
      IsTrue (is_visitable_expr terms (expr_view e) ks) → IsTrue (is_made_of terms term.0 (length es))
  makes_call e ty term args es ks h f c = subst (λ n. IsTrue (is_made_of terms term.0 n)) (arg_count es) (both_args e ty term args es ks h f c).0

  -- a term has as many arguments as the expression gives it
  pub counts_args : (term : TermId) (n : ℕ) (used : CodeTerm) (tys : List TypeId) → slice_get terms term.0 ≡ Some (term_view used) → tys ≡ used.arg_tys.items → IsTrue (is_made_of terms term.0 n) → length tys ≡ n
  counts_args term n used tys at is h = grind (arith, common_steps, and_parts, length-map)

  pub asks_defs : (e : Expr) (ty : TypeId) (bindings : Vec (VarId × TypeId × Box Expr Global) Global) (body : Box Expr Global) (ds : List (VarId × TypeId × Box Expr Global)) (ks : List ℕ) →
      e ≡ Let ty bindings body → ds ≡ bindings.items → IsTrue (is_visitable_expr terms (expr_view e) ks) → IsTrue (are_visitable_lets terms (let_parts (let_views ds)) ks)
  asks_defs e ty bindings body ds ks h f c = (and_parts _ _ (subst (λ z. IsTrue (is_visitable_expr terms z ks)) (seen_let e ty bindings body ds body.value h f refl) c)).0

  pub asks_body : {S E : Type 0} (v : ExprSteps VisitFault S E) (e : Expr) (ty : TypeId) (bindings : Vec (VarId × TypeId × Box Expr Global) Global) (body : Box Expr Global) (ds : List (VarId × TypeId × Box Expr Global)) (b : Expr) (vs ws : BoundIds E) (s t : S) →
      e ≡ Let ty bindings body → ds ≡ bindings.items → b ≡ body.value → IsTrue (is_visitable_expr terms (expr_view e) (bound_vars vs)) → LetsRun no_memory v terms (let_parts (let_views ds)) vs s (Ok ws) t →
      IsTrue (is_visitable_expr terms (expr_view b) (bound_vars ws))
  asks_body v e ty bindings body ds b vs ws s t h f g c ran = grind (arith, common_steps, and_parts, seen_let, expr_same, lets_bind)

module _ {S E : Type 0} (v : ExprSteps VisitFault S E) (terms : List TermEntry) where
  types_used : (term : TermId) (used : CodeTerm) (tys : List TypeId) → slice_get terms term.0 ≡ Some (term_view used) → tys ≡ used.arg_tys.items → entry_arg_types (slice_get terms term.0) ≡ type_numbers tys
  types_used term used tys at is = ap entry_arg_types at ∙ ap type_numbers (sym is)

  pub runs_call : (e : Expr) (ty : TypeId) (term : TermId) (args : Vec Expr Global) (es : List Expr) (used : CodeTerm) (tys : List TypeId) (inputs : List (E × ℕ)) (vs : BoundIds E) (s u : S) (r : Result E VisitFault) (t : S) →
      e ≡ Term ty term args → es ≡ args.items → slice_get terms term.0 ≡ Some (term_view used) → tys ≡ used.arg_tys.items →
      InputsRun no_memory v terms (expr_parts (expr_views es)) (type_numbers tys) vs s (Ok inputs) u → Makes v ty.0 term.0 inputs (slice_get terms term.0) u r t → ExprRun no_memory v terms (expr_view e) vs s r t
  runs_call e ty term args es used tys inputs vs s u r t h f at is first rest = grind (arith, common_steps, seen_call, types_used)

  pub stops_call : (e : Expr) (ty : TypeId) (term : TermId) (args : Vec Expr Global) (es : List Expr) (used : CodeTerm) (tys : List TypeId) (vs : BoundIds E) (s : S) (fault : VisitFault) (t : S) →
      e ≡ Term ty term args → es ≡ args.items → slice_get terms term.0 ≡ Some (term_view used) → tys ≡ used.arg_tys.items →
      InputsRun no_memory v terms (expr_parts (expr_views es)) (type_numbers tys) vs s (Err fault) t → ExprRun no_memory v terms (expr_view e) vs s (Err fault) t
  stops_call e ty term args es used tys vs s fault t h f at is first = grind (arith, common_steps, seen_call, types_used)

  pub runs_let : (e : Expr) (ty : TypeId) (bindings : Vec (VarId × TypeId × Box Expr Global) Global) (body : Box Expr Global) (ds : List (VarId × TypeId × Box Expr Global)) (b : Expr) (vs ws : BoundIds E) (s u : S) (r : Result E VisitFault) (t : S) →
      e ≡ Let ty bindings body → ds ≡ bindings.items → b ≡ body.value → LetsRun no_memory v terms (let_parts (let_views ds)) vs s (Ok ws) u → ExprRun no_memory v terms (expr_view b) ws u r t → ExprRun no_memory v terms (expr_view e) vs s r t
  runs_let e ty bindings body ds b vs ws s u r t h f g first rest = rw (seen_let e ty bindings body ds b h f g) (inr (inl (ws, u, first, rest)))

  pub stops_let : (e : Expr) (ty : TypeId) (bindings : Vec (VarId × TypeId × Box Expr Global) Global) (body : Box Expr Global) (ds : List (VarId × TypeId × Box Expr Global)) (vs : BoundIds E) (s : S) (fault : VisitFault) (t : S) →
      e ≡ Let ty bindings body → ds ≡ bindings.items → LetsRun no_memory v terms (let_parts (let_views ds)) vs s (Err fault) t → ExprRun no_memory v terms (expr_view e) vs s (Err fault) t
  stops_let e ty bindings body ds vs s fault t h f first = rw (seen_let e ty bindings body ds body.value h f refl) (inr (inr (fault, first, refl)))
