-- The impure calls of a right side come in order: each takes answers of earlier ones alone, and so does the result.
use Rattle.std.proofs.Common.{◌≡◌, ◌⊎◌, ℕ, suc, Bool, true, false, List, [], ◌∷◌, ◌++◌, length, Some, is_some, IsTrue, refl, sym, subst, inl, inr, arith, append-nil, append_assoc}
use Rattle.std.proofs.lemmas.Bool.{false≢true}
use Rattle.std.proofs.lemmas.List.{length_push}
use Rattle.std.proofs.lemmas.Grind.{common_steps}
use Rattle.model.specs.rules.Program.{Program, Kind, a_variant, a_struct, a_call, unknown, kind, flags_of, is_pure, is_multi}
use Rattle.model.specs.rules.CalledTerms.{CallsAlone, CallAlone, LetsCallAlone}
use Rattle.model.specs.rules.Typed.{TypedExpr, make_term, make_var, make_bool, make_int, make_prim, make_let, TypedExprs, no_typed_expr, typed_expr_and, TypedLets, no_typed_let, typed_let_and}
use Rattle.model.specs.sites.Sites.{SiteTerm, constructor_call, some_part, SiteTerms}
use Rattle.model.specs.visits.Demands.{Visit, making, calling, binding, Valued, ValuedAll, valued, visit_call, visit_term, visit_expr, visit_exprs, visit_lets}
use Rattle.model.specs.lists.Formed.{var_type, is_formed_expr, are_formed_args, formed_lets}
use Rattle.model.proofs.Elements.{In, in_right, some_is}
use Rattle.laws_trees.proofs.taking.FollowedCalls.{answered_call}
use Rattle.laws_trees.proofs.taking.CallsIn.{CallsOnly, CallOnly, calls_more, call_more, Known, known_more, IsNext, InOrder}
use Rattle.laws_sites.proofs.AskedSites.{Same}
use Rattle.laws_sites.proofs.GrowingVisits.{Grown, then_grown, grown_binding, expr_adds, exprs_add, lets_add, term_adds}
use Rattle.laws_sites.proofs.SameExprs.{from_let, from_term, from_args, from_body, expr_keeps}
use Rattle.laws_trees.proofs.Variables.{named}
use Rattle.laws_sites.proofs.ImpureCallsMet.{AddsCalls, expr_adds_calls, exprs_add_calls}
use Rattle.laws_typing.proofs.FormedParts.{has_type}

-- a term that is pure, or answers once
abbrev pub IsPureOrSingle : Program → ℕ → Type 0
IsPureOrSingle p t = IsTrue (is_pure p t) ⊎ (is_multi p t ≡ false)

order_more : (made before us : List SiteTerm) (u : SiteTerm) → InOrder made before us → IsNext made (before ++ us) u → InOrder made before (us ++ u ∷ [])
order_more made before [] u h n = (subst (λ l. IsNext made l u) (append-nil before) n, tt)
order_more made before (x ∷ us) u h n = (h.0, order_more made (before ++ x ∷ []) us u h.1 (subst (λ l. IsNext made l u) (sym (append_assoc before (x ∷ []) us)) n))

-- the impure calls at or in a site are known to a visit
abbrev KnownTo : Visit → SiteTerm → Type 0
KnownTo v s = CallsOnly (Known v.demands.impure) s

abbrev AllKnownTo : Visit → SiteTerms → Type 0
AllKnownTo v ss = CallOnly (Known v.demands.impure) ss

abbrev pub VarsKnownTo : List (ℕ × ℕ) → Visit → Type 0
VarsKnownTo vars v = (x : ℕ) → is_some (var_type vars x) ≡ true → KnownTo v (named v.vars x)

known_on : (v w : Visit) → AddsCalls v w → (s : SiteTerm) → KnownTo v s → KnownTo w s
known_on v w a s h = grind (arith, common_steps, calls_more, known_more)

vars_on : (vars : List (ℕ × ℕ)) (v w : Visit) → AddsCalls v w → Same vars v w → VarsKnownTo vars v → VarsKnownTo vars w
vars_on vars v w a same f x h = subst (KnownTo w) (sym (same x h)) (known_on v w a (named v.vars x) (f x h))

-- a visit counts its impure calls
abbrev pub CountsCalls : Visit → Type 0
CountsCalls v = length v.demands.impure ≡ v.impure_calls

module _ (p : Program) (z : Visit) where
  -- a visit counts its impure calls, which come in order
  pub record IsOrderly (v : Visit) : Type 0 where
    pub count : CountsCalls v
    pub order : InOrder z.demands.made [] v.demands.impure

  pub record IsOrdered (a : Valued) : Type 0 where
    pub orderly : IsOrderly a.visit
    pub site : KnownTo a.visit a.site

  record AreOrdered (a : ValuedAll) : Type 0 where
    orderly : IsOrderly a.visit
    sites : AllKnownTo a.visit a.sites

  pure_ordered : (multi partial rec : Bool) (t : ℕ) (a : ValuedAll) → AreOrdered a → IsOrdered (visit_call (record { pure = true; multi = multi; partial = partial; rec = rec }) t a.sites a.visit)
  pure_ordered multi partial rec t a h = grind (arith, common_steps)

  -- an impure call, by its answer
  one_ordered : (t : ℕ) (a : ValuedAll) (u : SiteTerm) (sites : List SiteTerm) → answered_call u ≡ constructor_call t a.sites (suc a.visit.impure_calls) → (u ≡ answered_call u) ⊎ (u ≡ some_part (answered_call u))
      → In z.demands.made (constructor_call t a.sites (suc a.visit.impure_calls)) → ((P : SiteTerm → Type 0) → CallsOnly P (constructor_call t a.sites (suc a.visit.impure_calls)) → CallsOnly P u)
      → AreOrdered a → IsOrdered (valued u (calling u (making sites a.visit)))
  one_ordered t a u sites e answer made lift h = grind (arith, common_steps, length_push, order_more, call_more, known_more, answered_call, in_right)

  call_ordered : (pure multi partial rec : Bool) (t : ℕ) (a : ValuedAll) → (pure ≡ true) ⊎ (multi ≡ false) → Grown (visit_call (record { pure = pure; multi = multi; partial = partial; rec = rec }) t a.sites a.visit).visit z
      → AreOrdered a → IsOrdered (visit_call (record { pure = pure; multi = multi; partial = partial; rec = rec }) t a.sites a.visit)
  call_ordered true multi partial rec t a s l h = pure_ordered multi partial rec t a h
  call_ordered false true partial rec t a (inl e) l h = absurd (false≢true e)
  call_ordered false true partial rec t a (inr e) l h = absurd (false≢true (sym e))
  call_ordered false false true rec t a s l h =
      let call = constructor_call t a.sites (suc a.visit.impure_calls) in
      one_ordered t a (some_part call) (call ∷ (some_part call ∷ [])) refl (inr refl) (l.made call (in_right a.visit.demands.made (call ∷ (some_part call ∷ [])) call (inl refl))) (λ P k. k) h
  call_ordered false false false rec t a s l h =
      let call = constructor_call t a.sites (suc a.visit.impure_calls) in
      one_ordered t a call (call ∷ []) refl (inl refl) (l.made call (in_right a.visit.demands.made (call ∷ []) call (inl refl))) (λ P k. k) h

  term_ordered : (k : Kind) (t : ℕ) (a : ValuedAll) → IsTrue (flags_of k).pure ⊎ ((flags_of k).multi ≡ false) → Grown (visit_term k t a).visit z → AreOrdered a → IsOrdered (visit_term k t a)
  term_ordered (a_variant ty variant) t a s l h = record { orderly = record { count = h.orderly.count; order = h.orderly.order }; site = h.sites }
  term_ordered (a_struct ty) t a s l h = record { orderly = record { count = h.orderly.count; order = h.orderly.order }; site = h.sites }
  term_ordered (a_call flags infallible) t a s l h = call_ordered flags.pure flags.multi flags.partial flags.rec t a s l h
  term_ordered unknown t a s l h = record { orderly = h.orderly; site = tt }

  -- one more variable
  var_and : (x ty : ℕ) (s : SiteTerm) (vars : List (ℕ × ℕ)) (v : Visit) → KnownTo v s → VarsKnownTo vars v → VarsKnownTo ((x, ty) ∷ vars) (binding x s v)
  var_and x ty s vars v k f y h = grind (arith, common_steps)

  mutual
    pub expr_ordered : (x : TypedExpr) (v : Visit) (vars : List (ℕ × ℕ)) → is_formed_expr p x vars ≡ true → CallsAlone (IsPureOrSingle p) x → VarsKnownTo vars v → IsOrderly v → Grown (visit_expr p x v).visit z
        → IsOrdered (visit_expr p x v)
    expr_ordered (make_term ty t args) v vars f s k o l =
        let a = from_term p ty t args vars f in
        let b = visit_exprs p args v in
        term_ordered (kind p t) t b s.0 l (exprs_ordered args v a.entry.arg_tys vars a.formed s.1 k o (then_grown b.visit (visit_term (kind p t) t b).visit z (term_adds (kind p t) t b).grown l))
    expr_ordered (make_var ty x) v vars f s k o l = record { orderly = o; site = k x (has_type (var_type vars x) ty f) }
    expr_ordered (make_bool ty b) v vars f s k o l = record { orderly = record { count = o.count; order = o.order }; site = tt }
    expr_ordered (make_int ty i) v vars f s k o l = record { orderly = record { count = o.count; order = o.order }; site = tt }
    expr_ordered (make_prim ty name) v vars f s k o l = record { orderly = record { count = o.count; order = o.order }; site = tt }
    expr_ordered (make_let ty ds body) v vars f s k o l =
        let a = from_body p ty ds body vars f in
        let u = visit_lets p ds v in
        let r = lets_ordered ds v vars a.0 a.1 s.0 k o (then_grown u (visit_expr p body u).visit z (expr_adds p body u).grown l) in
        expr_ordered body u a.0 a.3 s.1 r.1 r.0 l

    exprs_ordered : (xs : TypedExprs) (v : Visit) (tys : List ℕ) (vars : List (ℕ × ℕ)) → are_formed_args p xs tys vars ≡ true → CallAlone (IsPureOrSingle p) xs → VarsKnownTo vars v → IsOrderly v → Grown (visit_exprs p xs v).visit z
        → AreOrdered (visit_exprs p xs v)
    exprs_ordered no_typed_expr v [] vars f s k o l = record { orderly = o; sites = tt }
    exprs_ordered no_typed_expr v (ty ∷ tys) vars f s k o l = absurd (false≢true f)
    exprs_ordered (typed_expr_and x xs) v [] vars f s k o l = absurd (false≢true f)
    exprs_ordered (typed_expr_and x xs) v (ty ∷ tys) vars f s k o l =
        let a = from_args p x xs ty tys vars f in
        let b = visit_expr p x v in
        let u = b.visit in
        let w = visit_exprs p xs u in
        let r = expr_ordered x v vars a.1 s.0 k o (then_grown u w.visit z (exprs_add p xs u).grown l) in
        let q = exprs_ordered xs u tys vars a.2 s.1 (vars_on vars v u (expr_adds_calls p x v) (expr_keeps p x v vars a.1) k) r.orderly l in
        record { orderly = q.orderly; sites = (known_on u w.visit (exprs_add_calls p xs u) b.site r.site, q.sites) }

    lets_ordered : (ds : TypedLets) (v : Visit) (vars more : List (ℕ × ℕ)) → formed_lets p ds vars ≡ Some more → LetsCallAlone (IsPureOrSingle p) ds → VarsKnownTo vars v → IsOrderly v → Grown (visit_lets p ds v) z
        → IsOrderly (visit_lets p ds v) × VarsKnownTo more (visit_lets p ds v)
    lets_ordered no_typed_let v vars more f s k o l = (o, subst (λ vs. VarsKnownTo vs v) (some_is vars more f) k)
    lets_ordered (typed_let_and x ty value rest) v vars more f s k o l =
        let a = from_let p x ty value rest vars more f in
        let b = visit_expr p value v in
        let u = binding x b.site b.visit in
        let r = expr_ordered value v vars a.1 s.0 k o (then_grown b.visit u z (grown_binding x b.site b.visit) (then_grown u (visit_lets p rest u) z (lets_add p rest u).grown l)) in
        lets_ordered rest u ((x, ty) ∷ vars) more a.3 s.1
        (var_and x ty b.site vars b.visit r.site (vars_on vars v b.visit (expr_adds_calls p value v) (expr_keeps p value v vars a.1) k))
        (record { count = r.orderly.count; order = r.orderly.order }) l
