-- What expressions make: the gates of a value are demanded, but for answers of partial calls, and so are those of the
-- calls that it is made by going over.
use Rattle.std.proofs.Common.{◌≡◌, ℕ, suc, ◌==◌, Bool, true, false, ◌&&◌, List, [], ◌∷◌, Some, is_some, slice_get, refl, ap, ◌∙◌, arith}
use Rattle.std.proofs.lemmas.Bool.{and_parts, false≢true}
use Rattle.std.proofs.lemmas.Grind.{common_steps}
use Rattle.model.specs.rules.Meaning.{look}
use Rattle.model.specs.rules.Outcome.{then_option}
use Rattle.model.specs.lists.Tables.{TermEntry}
use Rattle.model.specs.rules.Program.{Program, Kind, a_variant, a_struct, a_call, unknown, kind, flags_of, is_partial}
use Rattle.model.specs.sites.Sites.{SiteTerm, bool_term, int_term, prim_term, constructor_call, pick_of, variant_made, struct_made, some_part, SiteTerms}
use Rattle.model.specs.rules.Typed.{TypedExpr, make_term, make_var, make_bool, make_int, make_prim, make_let, TypedExprs, no_typed_expr, typed_expr_and, TypedLets, no_typed_let, typed_let_and}
use Rattle.model.specs.visits.Demands.{Visit, making, iterating, calling, binding, or_no_site, Valued, ValuedAll, valued, call_result, call_sites, where_multi, visit_call, visit_term, visit_expr, visit_exprs, visit_lets}
use Rattle.model.specs.lists.Setting.{expr_type, has_constructor}
use Rattle.model.specs.lists.Formed.{var_type, with_new, is_formed_expr, are_formed_args, formed_lets}
use Rattle.model.proofs.Elements.{some_is}
use Rattle.model.specs.sites.DemandedGates.{AllGatesDemanded, IsPureExpr, ArePureExprs, ArePureLets}
use Rattle.model.specs.rules.CalledTerms.{CallsAlone, CallAlone, LetsCallAlone}
use Rattle.laws_sites.proofs.Calls.{NewCalls, no_call, then_calls, one_call}
use Rattle.laws_sites.proofs.Gates.{unasked}
use Rattle.laws_sites.proofs.AskedSites.{Good, Later, good_stays, now, then_later, later_making, later_calling, later_binding, later_iterating, at_right, AreGood, Same, bound_good, good_and, good_later, then_same, same_binding}
use Rattle.laws_sites.proofs.Patterns.{from_then, from_new}
use Rattle.laws_typing.proofs.FormedParts.{from_if, has_type, from_vars, from_entry}

-- the gates of all sites of a list
abbrev AllGood : Bool → Bool → Visit → SiteTerms → Type 0
AllGood asked pure v us = AllGatesDemanded asked pure v.demands.constraints v.demands.iterators us

-- an expression's value, where answers don't matter
pub record IsValuedUnasked (pure : Bool) (vars : List (ℕ × ℕ)) (v : Visit) (a : Valued) : Type 0 where
  pub later : Later v a.visit
  pub same : Same vars v a.visit
  pub site : Good false pure a.visit a.site

-- likewise: where answers matter, no call is made that may answer nothing; and with the gates of the calls that it is made
-- by going over
pub record IsValuedBy (asked pure : Bool) (vars : List (ℕ × ℕ)) (v : Visit) (a : Valued) : Type 0 where
  pub later : Later v a.visit
  pub same : Same vars v a.visit
  pub site : Good asked pure a.visit a.site
  pub calls : NewCalls asked pure v a.visit

record AreValued (asked pure : Bool) (vars : List (ℕ × ℕ)) (v : Visit) (a : ValuedAll) : Type 0 where
  later : Later v a.visit
  same : Same vars v a.visit
  sites : AllGood asked pure a.visit a.sites
  calls : NewCalls asked pure v a.visit

-- what a call gives, where the call is good and gone over if it is multi
record IsCalled (asked pure : Bool) (v : Visit) (a : Valued) : Type 0 where
  later : Later v a.visit
  binds : a.visit.vars ≡ v.vars
  site : Good asked pure a.visit a.site
  calls : NewCalls asked pure v a.visit

-- a call that is gone over, and what its answers are taken by
taken_over : (asked pure : Bool) (call result : SiteTerm) (sites : List SiteTerm) (v : Visit) → Good asked pure v call
    → (Good asked pure (iterating call (making sites v)) call → Good asked pure (iterating call (making sites v)) result)
    → IsCalled asked pure v (valued result (iterating call (making sites v)))
taken_over asked pure call result sites v g taken =
    let w = making sites v in
    let good = good_stays w (iterating call w) (later_iterating call w) asked pure call g in
    record {
      later = then_later v w (iterating call w) (later_making sites v) (later_iterating call w);
      binds = refl;
      site = taken good;
      calls = one_call asked pure call w good;
    }

gone_over : (asked pure p m q r : Bool) (call : SiteTerm) (v : Visit) → (asked ≡ true → q ≡ false) → Good asked pure v call
    → IsCalled asked pure v (valued (call_result (record { pure = p; multi = m; partial = q; rec = r }) call) (where_multi (record { pure = p; multi = m; partial = q; rec = r }) call (making (call_sites (record { pure = p; multi = m; partial = q; rec = r }) call) v)))
gone_over asked pure p true true r call v h g = grind (arith, common_steps, taken_over asked pure call (some_part call))
gone_over asked pure p true false r call v h g =
    taken_over asked pure call (pick_of call) (call ∷ (pick_of call ∷ [])) v g (λ good. (at_right v.demands.iterators call, good))
gone_over asked pure p false true r call v h g = grind (arith, common_steps, later_making, no_call)
gone_over asked pure p false false r call v h g = record { later = later_making (call ∷ []) v; binds = refl; site = g; calls = no_call asked pure v }

call_valued : (asked pure p m q r : Bool) (t : ℕ) (args : SiteTerms) (v : Visit) → (pure ≡ true → p ≡ true) → (asked ≡ true → q ≡ false) → AllGood asked pure v args
    → IsCalled asked pure v (visit_call (record { pure = p; multi = m; partial = q; rec = r }) t args v)
call_valued asked pure true m q r t args v h k g = gone_over asked pure true m q r (constructor_call t args 0) v k (grind (arith, common_steps), g)
call_valued asked true false m q r t args v h k g = absurd (false≢true (h refl))
call_valued asked false false m q r t args v h k g =
    let c = gone_over asked false false m q r (constructor_call t args (suc v.impure_calls)) v k (tt, g) in
    let w = where_multi (record { pure = false; multi = m; partial = q; rec = r }) (constructor_call t args (suc v.impure_calls)) (making (call_sites (record { pure = false; multi = m; partial = q; rec = r }) (constructor_call t args (suc v.impure_calls))) v) in
    let s = call_result (record { pure = false; multi = m; partial = q; rec = r }) (constructor_call t args (suc v.impure_calls)) in
    record { later = then_later v w (calling s w) c.later (later_calling s w (less_asked asked s w c.site)); binds = c.binds; site = c.site; calls = c.calls }
  where
    less_asked : (asked : Bool) (s : SiteTerm) (w : Visit) → Good asked false w s → Good false false w s
    less_asked true s w g = unasked w.demands.constraints w.demands.iterators false s g
    less_asked false s w g = g

term_valued : (asked pure : Bool) (k : Kind) (t : ℕ) (a : ValuedAll) → (pure ≡ true → (flags_of k).pure ≡ true) → (asked ≡ true → (flags_of k).partial ≡ false) → AllGood asked pure a.visit a.sites
    → IsCalled asked pure a.visit (visit_term k t a)
term_valued asked pure (a_variant ty variant) t a h k g = record { later = later_making (variant_made ty variant a.sites ∷ []) a.visit; binds = refl; site = g; calls = no_call asked pure a.visit }
term_valued asked pure (a_struct ty) t a h k g = record { later = later_making (struct_made ty a.sites ∷ []) a.visit; binds = refl; site = g; calls = no_call asked pure a.visit }
term_valued asked pure (a_call flags infallible) t a h k g = call_valued asked pure flags.pure flags.multi flags.partial flags.rec t a.sites a.visit h k g
term_valued asked pure unknown t a h k g = record { later = now a.visit; binds = refl; site = tt; calls = no_call asked pure a.visit }

-- more variables can be used
abbrev Within : List (ℕ × ℕ) → List (ℕ × ℕ) → Type 0
Within vars more = (x : ℕ) → is_some (var_type vars x) ≡ true → is_some (var_type more x) ≡ true

within_one_more : (y ty : ℕ) (vars : List (ℕ × ℕ)) → Within vars ((y, ty) ∷ vars)
within_one_more y ty vars x h = grind (arith, common_steps)

-- after a let's definitions
record AreDefined (asked pure : Bool) (vars more : List (ℕ × ℕ)) (v w : Visit) : Type 0 where
  later : Later v w
  same : Same vars v w
  good : AreGood asked pure more w
  within : Within vars more
  calls : NewCalls asked pure v w

-- a call of this term always answers
abbrev pub IsTotal : Program → ℕ → Type 0
IsTotal p t = is_partial p t ≡ false

module _ (asked pure : Bool) (p : Program) where
  mutual
    pub expr_valued_by : (e : TypedExpr) (v : Visit) (vars : List (ℕ × ℕ)) → is_formed_expr p e vars ≡ true → (pure ≡ true → IsPureExpr p e) → (asked ≡ true → CallsAlone (IsTotal p) e)
        → AreGood asked pure vars v → IsValuedBy asked pure vars v (visit_expr p e v)
    expr_valued_by (make_term ty t args) v vars f h k g =
        let a = from_entry (slice_get p.terms t) (λ (e : TermEntry). (e.ret_ty == ty) && (has_constructor e.kind && are_formed_args p args e.arg_tys vars)) f in
        let b = and_parts (has_constructor a.0.kind) (are_formed_args p args a.0.arg_tys vars) (and_parts (a.0.ret_ty == ty) (has_constructor a.0.kind && are_formed_args p args a.0.arg_tys vars) a.2).1 in
        let r = exprs_valued args v a.0.arg_tys vars b.1 (λ q. (h q).1) (λ q. (k q).1) g in
        let c = term_valued asked pure (kind p t) t (visit_exprs p args v) (λ q. (h q).0) (λ q. (k q).0) r.sites in
        let w = (visit_exprs p args v).visit in
        let z = (visit_term (kind p t) t (visit_exprs p args v)).visit in
        record {
          later = then_later v w z r.later c.later;
          same = then_same vars v w z r.same (λ x i. ap (λ vs. or_no_site (look (λ k. k == x) vs)) c.binds);
          site = c.site;
          calls = then_calls asked pure v w z c.later r.calls c.calls;
        }
    expr_valued_by (make_var ty x) v vars f h k g = record { later = now v; same = λ x h. refl; site = g x (has_type (var_type vars x) ty f); calls = no_call asked pure v }
    expr_valued_by (make_bool ty b) v vars f h k g = record { later = later_making (bool_term b ty ∷ []) v; same = λ x h. refl; site = tt; calls = no_call asked pure v }
    expr_valued_by (make_int ty z) v vars f h k g = record { later = later_making (int_term z ty ∷ []) v; same = λ x h. refl; site = tt; calls = no_call asked pure v }
    expr_valued_by (make_prim ty name) v vars f h k g = record { later = later_making (prim_term name ∷ []) v; same = λ x h. refl; site = tt; calls = no_call asked pure v }
    expr_valued_by (make_let ty defs body) v vars f h k g =
        let a = from_vars (formed_lets p defs vars) (λ more. (expr_type body == ty) && is_formed_expr p body more) f in
        let b = and_parts (expr_type body == ty) (is_formed_expr p body a.0) a.2 in
        let d = lets_defined defs v vars a.0 a.1 (λ q. (h q).0) (λ q. (k q).0) g in
        let w = visit_lets p defs v in
        let r = expr_valued_by body w a.0 b.1 (λ q. (h q).1) (λ q. (k q).1) d.good in
        let z = (visit_expr p body w).visit in
        record {
          later = then_later v w z d.later r.later;
          same = then_same vars v w z d.same (λ x i. r.same x (d.within x i));
          site = r.site;
          calls = then_calls asked pure v w z r.later d.calls r.calls;
        }

    exprs_valued : (es : TypedExprs) (v : Visit) (tys : List ℕ) (vars : List (ℕ × ℕ)) → are_formed_args p es tys vars ≡ true → (pure ≡ true → ArePureExprs p es) → (asked ≡ true → CallAlone (IsTotal p) es)
        → AreGood asked pure vars v → AreValued asked pure vars v (visit_exprs p es v)
    exprs_valued no_typed_expr v [] vars f h k g = record { later = now v; same = λ x h. refl; sites = tt; calls = no_call asked pure v }
    exprs_valued (typed_expr_and e es) v (ty ∷ tys) vars f h k g =
        let b = and_parts (is_formed_expr p e vars) (are_formed_args p es tys vars) (and_parts (expr_type e == ty) (is_formed_expr p e vars && are_formed_args p es tys vars) f).1 in
        let r = expr_valued_by e v vars b.0 (λ q. (h q).0) (λ q. (k q).0) g in
        let w = (visit_expr p e v).visit in
        let s = exprs_valued es w tys vars b.1 (λ q. (h q).1) (λ q. (k q).1) (good_later asked pure vars v w r.later r.same g) in
        let z = (visit_exprs p es w).visit in
        record {
          later = then_later v w z r.later s.later;
          same = then_same vars v w z r.same s.same;
          sites = (good_stays w z s.later asked pure (visit_expr p e v).site r.site, s.sites);
          calls = then_calls asked pure v w z s.later r.calls s.calls;
        }
    exprs_valued _ v _ vars f h k g = absurd (false≢true f)

    lets_defined : (ds : TypedLets) (v : Visit) (vars more : List (ℕ × ℕ)) → formed_lets p ds vars ≡ Some more → (pure ≡ true → ArePureLets p ds) → (asked ≡ true → LetsCallAlone (IsTotal p) ds)
        → AreGood asked pure vars v → AreDefined asked pure vars more v (visit_lets p ds v)
    lets_defined no_typed_let v vars more f h k g = grind (arith, common_steps, some_is, now, no_call)
    lets_defined (typed_let_and x ty value rest) v vars more f h k g =
        let a = from_if ((expr_type value == ty) && is_formed_expr p value vars) (then_option (with_new x ty vars) (λ after. formed_lets p rest after)) more f in
        let b = from_then (with_new x ty vars) (λ after. formed_lets p rest after) more a.1 in
        let n = from_new x ty vars b.0 b.1 in
        let c = and_parts (expr_type value == ty) (is_formed_expr p value vars) a.0 in
        let r = expr_valued_by value v vars c.1 (λ q. (h q).0) (λ q. (k q).0) g in
        let s = (visit_expr p value v).site in
        let u = (visit_expr p value v).visit in
        let w = binding x s u in
        let l = then_later v u w r.later (later_binding x s u) in
        let same = then_same vars v u w r.same (same_binding vars x s u n.0) in
        let good = good_and asked pure x ty vars w (good_later asked pure vars v w l same g) (bound_good asked pure x s u r.site) in
        let d = lets_defined rest w ((x, ty) ∷ vars) more (ap (λ after. formed_lets p rest after) n.1 ∙ b.2) (λ q. (h q).1) (λ q. (k q).1) good in
        let z = visit_lets p rest w in
        record {
          later = then_later v w z l d.later;
          same = λ y i. d.same y (within_one_more x ty vars y i) ∙ same y i;
          good = d.good;
          within = λ y i. d.within y (within_one_more x ty vars y i);
          calls = then_calls asked pure v w z d.later r.calls d.calls;
        }

-- where answers don't matter
pub expr_valued : (pure : Bool) (p : Program) (e : TypedExpr) (v : Visit) (vars : List (ℕ × ℕ)) → is_formed_expr p e vars ≡ true → (pure ≡ true → IsPureExpr p e) → AreGood false pure vars v
    → IsValuedUnasked pure vars v (visit_expr p e v)
expr_valued pure p e v vars f h g = grind (arith, common_steps, expr_valued_by false pure p e v vars f h)
