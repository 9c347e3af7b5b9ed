-- A visitor that follows the visitor of sites follows it through an expression that hangs together.
use Rattle.std.proofs.Common.{◌≡◌, ◌⊎◌, ℕ, true, List, [], ◌∷◌, Option, Some, None, slice_get, Result, Ok, Err, sym, subst, ⊎_elim, arith}
use Rattle.std.specs.Prelude.{MatchResult}
use Rattle.std.proofs.Math.Bool.{not-not}
use Rattle.std.proofs.lemmas.Grind.{common_steps}
use Rattle.model.specs.lists.Tables.{TermKindEntry, variant_term, struct_term, declared_term, TermEntry}
use Rattle.model.specs.lists.Formed.{is_formed_expr, are_formed_args, formed_lets}
use Rattle.model.specs.rules.Program.{Program, Kind, unknown, kind, kind_of}
use Rattle.model.specs.rules.Typed.{TypedExpr, make_term, make_var, make_bool, make_int, make_prim, make_let, TypedExprs, no_typed_expr, typed_expr_and, TypedLets, no_typed_let, typed_let_and}
use Rattle.model.specs.visits.Demands.{Visit, Valued, ValuedAll, binding, visit_term, visit_expr, visit_exprs, visit_lets}
use Rattle.model.specs.visits.Runs.{BoundIds, and_then, done, or_refused, refused, with_bound}
use Rattle.model.specs.visits.Visitors.{ExprSteps}
use Rattle.model.specs.visits.ExprRuns.{entry_arg_types, MakesKind, Makes, ExprRun, InputsRun, LetsRun}
use Rattle.model.proofs.Elements.{some_is}
use Rattle.laws_sites.specs.VisitLaws.{Continues}
use Rattle.laws_sites.proofs.SameExprs.{expr_keeps, from_let, from_term, from_args, from_body}
use Rattle.laws_sites.proofs.Continued.{continues_now, values_continue}
use Rattle.laws_sites.proofs.VisitInvariants.{expr_kept, exprs_kept, lets_kept}
use Rattle.laws_sites.specs.Followers.{Follower, Goes, Gives, NameInputs, FollowsExprs, EndsOnTheWay}
use Rattle.laws_sites.proofs.KnownVars.{InScope, KnowsVars, by_and_then, goes_further, goes_nowhere, knows_more, knows_on, one_more_in_scope, refused_ends}

-- a term that is there, at a type
abbrev HasType : ℕ → Option TermEntry → Type 0
HasType ty None = ⊥
HasType ty (Some e) = e.ret_ty ≡ ty

module _ {F S N : Type 0} (o : Follower F S N) (want : Option F) (ends : EndsOnTheWay o want) where
  -- 1. where a visitor goes
  -- it has gone on, and its inputs are those of values
  pub record HasInputs (s t : S) (a : ValuedAll) (inputs : List (N × ℕ)) : Type 0 where
    pub goes : Goes o s t a.visit
    pub named : NameInputs o t a.sites inputs

  -- it has gone on past definitions, with their variables
  pub record HasLets (s t : S) (w : Visit) (more : List (ℕ × ℕ)) (ws : BoundIds N) : Type 0 where
    pub goes : Goes o s t w
    pub knows : KnowsVars o t ws w
    pub scope : InScope ws more

  -- or it ends on the way
  abbrev pub InputsOr : S → Result (List (N × ℕ)) F → S → ValuedAll → Type 0
  InputsOr s r t a = MatchResult r (HasInputs s t a) (λ e. o.Ends t a.visit e)

  abbrev pub LetsOr : S → Result (BoundIds N) F → S → Visit → List (ℕ × ℕ) → Type 0
  LetsOr s r t w more = MatchResult r (HasLets s t w more) (λ e. o.Ends t w e)

  pub gives_further : (s m : S) (r : Result N F) (t : S) (v : Visit) (a : Valued) → Goes o s m v → Gives o m r t a → Gives o s r t a
  gives_further s m r t v a g h = grind (arith, common_steps, goes_further)

  lets_further : (s m : S) (r : Result (BoundIds N) F) (t : S) (v w : Visit) (more : List (ℕ × ℕ)) → Goes o s m v → LetsOr m r t w more → LetsOr s r t w more
  lets_further s m r t v w more g h = grind (arith, common_steps, goes_further)

  -- where memory may be refused
  past_refusal : {A T : Type 0} (G : A → Type 0) (s : T) (r : Result A F) (t : T) (z : S) (w : Visit) (m : Type 0) → (m → MatchResult r G (λ e. o.Ends z w e)) → refused want s r t ⊎ m → MatchResult r G (λ e. o.Ends z w e)
  past_refusal G s r t z w m f run = ⊎_elim (λ a. refused_ends o want ends G s r t z w a) f run

  module _ (v : ExprSteps F S N) (f : FollowsExprs o v) (p : Program) where
    -- 2. a term's call
    module _ (s t : S) (r : Result N F) (a : ValuedAll) where
      kind_made : (ty term : ℕ) (inputs : List (N × ℕ)) (e : TermEntry) (k : TermKindEntry) → o.Stands s a.visit → NameInputs o s a.sites inputs → e.ret_ty ≡ ty → MakesKind v ty term inputs k s r t
          → Gives o s r t (visit_term (kind_of (record e { kind = k })) term a)
      kind_made ty term inputs e (variant_term variant) h named ret run = grind (arith, common_steps)
      kind_made ty term inputs e struct_term h named ret run = grind (arith, common_steps)
      kind_made ty term inputs e (declared_term flags None x) h named ret run = absurd run
      kind_made ty term inputs e (declared_term flags (Some c) x) h named ret run = grind (arith, common_steps, not-not flags.partial)

      term_made : (ty term : ℕ) (inputs : List (N × ℕ)) (e : Option TermEntry) → o.Stands s a.visit → NameInputs o s a.sites inputs → HasType ty e → Makes v ty term inputs e s r t
          → Gives o s r t (visit_term (elim e as (λ _. Kind) [ None ↦ unknown | Some x ↦ kind_of x ]) term a)
      term_made ty term inputs None h named ret run = absurd ret
      term_made ty term inputs (Some e) h named ret run = kind_made ty term inputs e e.kind h named ret run

    -- 3. the visit
    mutual
      pub expr_follows : (x : TypedExpr) (vs : BoundIds N) (vars : List (ℕ × ℕ)) (s : S) (r : Result N F) (t : S) (w : Visit) → is_formed_expr p x vars ≡ true → ExprRun want v p.terms x vs s r t
          → o.Stands s w → KnowsVars o s vs w → InScope vs vars → Gives o s r t (visit_expr p x w)
      expr_follows (make_term ty term args) vs vars s r t w formed run h knows scope =
          let g = from_term p ty term args vars formed in
          let a = visit_exprs p args w in
          let last = visit_term (kind p term) term a in
          by_and_then (InputsRun want v p.terms args (entry_arg_types (slice_get p.terms term)) vs) (λ inputs. Makes v ty term inputs (slice_get p.terms term)) s r t (λ z. Gives o s z t last)
          (λ inputs m step made.
          let first = inputs_follow args g.entry.arg_tys vs vars s (Ok inputs) m w g.formed (subst (λ e. InputsRun want v p.terms args (entry_arg_types e) vs s (Ok inputs) m) g.there step) h knows scope in
          gives_further s m r t a.visit last first.goes (term_made m t r a ty term inputs (slice_get p.terms term) first.goes.stands first.named (subst (HasType ty) (sym g.there) g.ret) made))
          (λ e step.
          ends.further t a.visit last.visit e ((values_continue p a.visit).valued term a (continues_now a.visit))
          (inputs_follow args g.entry.arg_tys vs vars s (Err e) t w g.formed (subst (λ x. InputsRun want v p.terms args (entry_arg_types x) vs s (Err e) t) g.there step) h knows scope)) run
      expr_follows (make_var ty x) vs vars s r t w formed run h knows scope = grind (arith, common_steps, goes_nowhere)
      expr_follows (make_bool ty b) vs vars s r t w formed run h knows scope = f.bool s w ty b r t h run
      expr_follows (make_int ty z) vs vars s r t w formed run h knows scope = f.int s w ty z r t h run
      expr_follows (make_prim ty name) vs vars s r t w formed run h knows scope = f.prim s w ty name r t h run
      expr_follows (make_let ty defs body) vs vars s r t w formed run h knows scope =
          let g = from_body p ty defs body vars formed in
          let mid = visit_lets p defs w in
          let last = visit_expr p body mid in
          past_refusal (λ n. Goes o s t last.visit × o.Names t last.site n) s r t t last.visit (and_then (LetsRun want v p.terms defs vs) (λ ws. ExprRun want v p.terms body ws) s r t)
          (λ both.
          by_and_then (LetsRun want v p.terms defs vs) (λ ws. ExprRun want v p.terms body ws) s r t (λ z. Gives o s z t last)
          (λ ws m step rest.
          let first = lets_follow defs vs vars g.0 s (Ok ws) m w g.1 step h knows scope in
          gives_further s m r t mid last first.goes (expr_follows body ws g.0 m r t mid g.3 rest first.goes.stands first.knows first.scope))
          (λ e step.
          ends.further t mid last.visit e (expr_kept p (Continues mid) (values_continue p mid) body mid (continues_now mid)) (lets_follow defs vs vars g.0 s (Err e) t w g.1 step h knows scope)) both) run

      pub inputs_follow : (xs : TypedExprs) (tys : List ℕ) (vs : BoundIds N) (vars : List (ℕ × ℕ)) (s : S) (r : Result (List (N × ℕ)) F) (t : S) (w : Visit) → are_formed_args p xs tys vars ≡ true
          → InputsRun want v p.terms xs tys vs s r t → o.Stands s w → KnowsVars o s vs w → InScope vs vars → InputsOr s r t (visit_exprs p xs w)
      inputs_follow no_typed_expr [] vs vars s r t w formed run h knows scope = grind (arith, common_steps, goes_nowhere)
      inputs_follow no_typed_expr (ty ∷ tys) vs vars s r t w formed run h knows scope = absurd run
      inputs_follow (typed_expr_and x xs) [] vs vars s r t w formed run h knows scope = absurd run
      inputs_follow (typed_expr_and x xs) (ty ∷ tys) vs vars s r t w formed run h knows scope =
          let g = from_args p x xs ty tys vars formed in
          let a = visit_expr p x w in
          let b = visit_exprs p xs a.visit in
          let all = visit_exprs p (typed_expr_and x xs) w in
          by_and_then (ExprRun want v p.terms x vs) (λ id. or_refused want (and_then (InputsRun want v p.terms xs tys vs) (λ inputs. done ((id, ty) ∷ inputs)))) s r t (λ z. InputsOr s z t all)
          (λ id m step later.
          let first = expr_follows x vs vars s (Ok id) m w g.1 step h knows scope in
          let known = knows_on o s m vs vars w a.visit scope (expr_keeps p x w vars g.1) first.0 knows in
          past_refusal (HasInputs s t all) m r t t all.visit (and_then (InputsRun want v p.terms xs tys vs) (λ inputs. done ((id, ty) ∷ inputs)) m r t)
          (λ both.
          by_and_then (InputsRun want v p.terms xs tys vs) (λ inputs. done ((id, ty) ∷ inputs)) m r t (λ z. InputsOr s z t all)
          (λ inputs n others stop.
          let rest = inputs_follow xs tys vs vars m (Ok inputs) n a.visit g.2 others first.0.stands known scope in
          subst (λ z. InputsOr s z t all) (sym stop.0)
          (subst (λ z. HasInputs s z all ((id, ty) ∷ inputs)) (sym stop.1)
          (record { goes = goes_further o s m n a.visit b.visit first.0 rest.goes; named = (rest.goes.kept a.site id first.1, rest.named) })))
          (λ e others. inputs_follow xs tys vs vars m (Err e) t a.visit g.2 others first.0.stands known scope) both) later)
          (λ e step.
          ends.further t a.visit b.visit e (exprs_kept p (Continues a.visit) (values_continue p a.visit) xs a.visit (continues_now a.visit)) (expr_follows x vs vars s (Err e) t w g.1 step h knows scope)) run

      pub lets_follow : (ds : TypedLets) (vs : BoundIds N) (vars more : List (ℕ × ℕ)) (s : S) (r : Result (BoundIds N) F) (t : S) (w : Visit) → formed_lets p ds vars ≡ Some more
          → LetsRun want v p.terms ds vs s r t → o.Stands s w → KnowsVars o s vs w → InScope vs vars → LetsOr s r t (visit_lets p ds w) more
      lets_follow no_typed_let vs vars more s r t w formed run h knows scope =
          subst (λ z. LetsOr s z t w more) (sym run.0)
          (subst (λ z. HasLets s z w more vs) (sym run.1) (subst (λ ms. HasLets s s w ms vs) (some_is vars more formed) (record { goes = goes_nowhere o s w h; knows = knows; scope = scope })))
      lets_follow (typed_let_and x ty value rest) vs vars more s r t w formed run h knows scope =
          let g = from_let p x ty value rest vars more formed in
          let a = visit_expr p value w in
          let mid = binding x a.site a.visit in
          let last = visit_lets p rest mid in
          by_and_then (ExprRun want v p.terms value vs) (λ id. or_refused want (LetsRun want v p.terms rest (with_bound vs x id))) s r t (λ z. LetsOr s z t last more)
          (λ id m step later.
          let first = expr_follows value vs vars s (Ok id) m w g.1 step h knows scope in
          let known = knows_on o s m vs vars w a.visit scope (expr_keeps p value w vars g.1) first.0 knows in
          past_refusal (HasLets s t last more) m r t t last (LetsRun want v p.terms rest (with_bound vs x id) m r t)
          (λ others.
          let stands = ends.bound m a.visit x a.site first.0.stands in
          lets_further s m r t mid last more (record { stands = stands; kept = first.0.kept })
          (lets_follow rest (with_bound vs x id) ((x, ty) ∷ vars) more m r t mid g.3 others stands (knows_more o m vs a.visit x id a.site first.1 known) (one_more_in_scope vs vars x ty id scope))) later)
          (λ e step.
          ends.further t a.visit last e (lets_kept p (Continues a.visit) (values_continue p a.visit) rest mid ((values_continue p a.visit).bound x a.site a.visit (continues_now a.visit)))
          (expr_follows value vs vars s (Err e) t w g.1 step h knows scope)) run
