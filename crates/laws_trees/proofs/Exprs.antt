-- The value of an expression that calls pure terms alone is its site's.
use Rattle.std.proofs.Common.{◌≡◌, ℕ, ◌==◌, Bool, true, false, List, [], ◌∷◌, Option, Some, None, is_some, slice_get, refl, sym, ap, ap₂, subst, ◌∙◌, inl, inr, eq-eqb, arith}
use Rattle.std.proofs.lemmas.Bool.{and_from, false≢true}
use Rattle.std.proofs.lemmas.Grind.{common_steps}
use Rattle.model.specs.lists.Tables.{Flags, TermEntry}
use Rattle.model.specs.rules.Values.{Value, of_variant, of_struct, Values, value_and, well_typed, all_well_typed, variant_types, struct_types}
use Rattle.model.specs.rules.Meaning.{Content, one, nothing, just, bool_literal, int_literal, literal_value, constant_value, pure_answer}
use Rattle.model.specs.rules.Outcome.{then_option}
use Rattle.model.specs.rules.Matching.{single}
use Rattle.model.specs.rules.Program.{Program, Kind, a_variant, a_struct, a_call, unknown, kind, kind_of, flags_of}
use Rattle.model.specs.rules.Typed.{TypedExpr, make_term, make_var, make_bool, make_int, make_prim, make_let, TypedExprs, no_typed_expr, typed_expr_and, TypedLets, no_typed_let, typed_let_and}
use Rattle.model.specs.rules.Picks.{picked, taken_answer, part_of_some, SitedVars, sited, visit_at, expr_site, expr_sites, term_under, value_under, values_under, lets_under}
use Rattle.model.specs.trees.Run.{as_value, from_value}
use Rattle.model.specs.sites.Sites.{SiteTerm, bool_term, int_term, prim_term, constructor_call, pick_of, variant_made, struct_made, some_part, SiteTerms}
use Rattle.model.specs.visits.Demands.{Visit, binding, ValuedAll, visit_term, visit_expr, visit_exprs, visit_lets, unwraps, unwraps_all}
use Rattle.model.specs.sites.Serves.{constant_type, fits_constructor}
use Rattle.model.specs.sites.DemandedGates.{IsPureExpr, ArePureExprs, ArePureLets}
use Rattle.model.specs.lists.Setting.{expr_type}
use Rattle.model.specs.lists.Formed.{var_type, is_formed_expr, are_formed_args, formed_lets}
use Rattle.model.proofs.Elements.{In, in_left, in_right, some_is, none_some}
use Rattle.model.proofs.Options.{is_there}
use Rattle.laws_sites.proofs.AskedSites.{Same}
use Rattle.laws_sites.proofs.Patterns.{its_kind, from_then, term_known}
use Rattle.laws_trees.proofs.Contents.{Given, content_of, value_of, values_of, IsValueOf, Fits, IsAnswered, one_fits, maybe_fits, picked_fits, constructor_fits}
use Rattle.laws_sites.proofs.GrowingVisits.{Grown, then_grown, grown_binding, expr_adds, exprs_add, lets_add, term_adds}
use Rattle.laws_sites.proofs.SameExprs.{from_let, from_term, from_args, from_body, expr_keeps, term_site, pure_site, expr_alike, exprs_alike}
use Rattle.laws_typing.specs.WellTypedPrograms.{IsWellTypedProgram}
use Rattle.laws_typing.proofs.WellTypedPrograms.{variant_takes, struct_takes}
use Rattle.laws_trees.proofs.Variables.{AllPresent, IsValued, AreVars, var_moved, vars_and}
use Rattle.laws_typing.proofs.FormedParts.{type_is}

-- the value that a content was made of
value_back : (o : Option Value) → o ≡ then_option (from_value o) as_value
value_back o = grind (arith, common_steps)

value_made : (o : Option Values) (f : Values → Value) → then_option o (λ vs. Some (f vs)) ≡ then_option (then_option o (λ vs. Some (one (f vs)))) as_value
value_made o f = grind (arith, common_steps)

-- variables stay where the visit names them as before
pub vars_moved : (g : Given) (vars : List (ℕ × ℕ)) (e : SitedVars) (v w : Visit) → Same vars v w → AreVars g vars e v.vars → AreVars g vars e w.vars
vars_moved g vars e v w s f x ty h = var_moved g e v.vars w.vars x ty (s x (ap is_some h)) (f x ty h)

-- the visits name variables alike
vars_same : (g : Given) (vars : List (ℕ × ℕ)) (e : SitedVars) (v : Visit) → AreVars g vars e v.vars → Same vars (visit_at e 0) v
vars_same g vars e v f x h = let t = is_there (var_type vars x) h in sym (f x t.0 t.1).site

-- arguments' values
record AreValued (g : Given) (own : SiteTerms) (o : Option Values) (tys : List ℕ) (ss : SiteTerms) : Type 0 where
  sites : own ≡ ss
  values : o ≡ values_of g ss
  typed : (vs : Values) → o ≡ Some vs → all_well_typed g.program.types (Some tys) vs ≡ true
  reached : AllPresent g (unwraps_all ss) → (vs : Values) × (o ≡ Some vs)

module _ (g : Given) (z : Visit) (h : IsAnswered g z.demands) (well : IsWellTypedProgram g.program) where
  abbrev p : Program
  p = g.program

  -- a literal's or a constant's value
  constant_valued : (s : SiteTerm) (o : Option Value) (ty : ℕ) → content_of g s ≡ from_value o → IsValueOf g ty o → IsValued g s o ty s
  constant_valued s o ty c a = grind (arith, common_steps, value_back, some_is)

  -- a variant or a struct that is made
  made_valued : (s : SiteTerm) (ss : SiteTerms) (o : Option Values) (tys : List ℕ) (ty : ℕ) (f : Values → Value) → content_of g s ≡ then_option (values_of g ss) (λ vs. Some (one (f vs))) → unwraps s ≡ unwraps_all ss
      → ((vs : Values) → all_well_typed p.types (Some tys) vs ≡ true → well_typed p.types ty (f vs) ≡ true) → AreValued g ss o tys ss → IsValued g s (then_option o (λ vs. Some (f vs))) ty s
  made_valued s ss o tys ty f c u t a = record {
    site = refl;
    value = ap (λ q. then_option q (λ vs. Some (f vs))) a.values ∙ value_made (values_of g ss) f ∙ ap (λ q. then_option q as_value) (sym c);
    typed = λ v e. let r = from_then o (λ vs. Some (f vs)) v e in subst (λ w. well_typed p.types ty w ≡ true) (some_is (f r.0) v r.2) (t r.0 (a.typed r.0 r.1));
    reached = λ q. let r = a.reached (subst (AllPresent g) u q) in (f r.0, ap (λ w. then_option w (λ vs. Some (f vs))) r.1);
  }

  -- no call has a value where an argument has none
  none_valued : (s : SiteTerm) (ss : SiteTerms) (tys : List ℕ) (ty : ℕ) → value_of g s ≡ None → (AllPresent g (unwraps s) → AllPresent g (unwraps_all ss)) → AreValued g ss None tys ss → IsValued g s None ty s
  none_valued s ss tys ty n u a = record {
    site = refl;
    value = sym n;
    typed = λ v e. absurd (none_some v e);
    reached = λ q. let r = a.reached (u q) in absurd (none_some r.0 r.1);
  }

  -- a call whose answer is one value
  one_valued : (s : SiteTerm) (o : Option Value) (ty : ℕ) (c : Content) (w : Value) → content_of g s ≡ Some c → c ≡ one w → o ≡ single c → well_typed p.types ty w ≡ true → IsValued g s o ty s
  one_valued s o ty c w e q r t = grind (arith, common_steps, some_is)

  abbrev call_of : ℕ → SiteTerms → SiteTerm
  call_of t ss = constructor_call t ss 0

  abbrev flags_with : Bool → Bool → Bool → Flags
  flags_with multi partial rec = record { pure = true; multi = multi; partial = partial; rec = rec }

  abbrev call_value : Bool → ℕ → SiteTerms → Option Values → Option Value
  call_value multi t ss o = then_option o (λ vs. then_option (then_option (pure_answer g.meaning t vs) (taken_answer multi g.pick (call_of t ss))) single)

  module _ (t : ℕ) (x : TermEntry) (there : slice_get p.terms t ≡ Some x) where
    call_answers : (ss : SiteTerms) (vs : Values) → In z.demands.made (call_of t ss) → AreValued g ss (Some vs) x.arg_tys ss → Fits (pure_answer g.meaning t vs) (fits_constructor p t (kind p t))
    call_answers ss vs i a = h.pures t ss vs i (sym a.values)

    call_content : (ss : SiteTerms) (vs : Values) (c : Content) → AreValued g ss (Some vs) x.arg_tys ss → pure_answer g.meaning t vs ≡ Some c → content_of g (call_of t ss) ≡ Some c
    call_content ss vs c a e = ap (λ o. then_option o (pure_answer g.meaning t)) (sym a.values) ∙ e

    picked_valued : (rec infallible : Bool) (ss : SiteTerms) (o : Option Values) → kind p t ≡ a_call (flags_with true false rec) infallible → In z.demands.made (call_of t ss) → In z.demands.iterators (call_of t ss)
        → AreValued g ss o x.arg_tys ss → IsValued g (pick_of (call_of t ss)) (call_value true t ss o) x.ret_ty (pick_of (call_of t ss))
    picked_valued rec infallible ss None q i j a = grind (arith, common_steps, none_valued)
    picked_valued rec infallible ss (Some vs) q i j a =
        let c = call_answers ss vs i a in
        let d = h.picks (call_of t ss) j in
        let e = call_content ss vs c.answer a c.there in
        let taken : picked g.pick (call_of t ss) c.answer ≡ Some d.0 = sym (ap (λ o. then_option o (picked g.pick (call_of t ss))) e) ∙ d.1 in
        let f = one_fits p x.ret_ty d.0 (picked_fits p false (x.ret_ty ∷ []) g.pick (call_of t ss) c.answer d.0 (constructor_fits p t x there (flags_with true false rec) infallible c.answer q c.right) taken) in
        one_valued (pick_of (call_of t ss)) (call_value true t ss (Some vs)) x.ret_ty d.0 f.0 d.1 f.1
        (ap (λ o. then_option (then_option o (taken_answer true g.pick (call_of t ss))) single) c.there ∙ ap (λ o. then_option o single) taken) f.2

    part_valued : (rec infallible : Bool) (ss : SiteTerms) (o : Option Values) → kind p t ≡ a_call (flags_with false true rec) infallible → In z.demands.made (call_of t ss)
        → AreValued g ss o x.arg_tys ss → IsValued g (some_part (call_of t ss)) (call_value false t ss o) x.ret_ty (some_part (call_of t ss))
    part_valued rec infallible ss None q i a = grind (arith, common_steps, none_valued)
    part_valued rec infallible ss (Some vs) q i a =
        let c = call_answers ss vs i a in
        let e = call_content ss vs c.answer a c.there in
        elim (maybe_fits p (x.ret_ty ∷ []) c.answer (constructor_fits p t x there (flags_with false true rec) infallible c.answer q c.right)) [
          | inl n ↦
              let none : call_value false t ss (Some vs) ≡ None = ap (λ o. then_option (then_option o (taken_answer false g.pick (call_of t ss))) single) (c.there ∙ ap Some n) in
              record {
                site = refl;
                value = none ∙ sym (ap (λ o. then_option (then_option o part_of_some) as_value) (e ∙ ap Some n));
                typed = λ v y. absurd (none_some v (sym none ∙ y));
                reached = λ w. (let r = w (call_of t ss) (inl refl) in absurd (not_just r.0 (sym n ∙ some_is c.answer (just r.0) (sym e ∙ r.1))));
              }
          | inr d ↦
              let f = one_fits p x.ret_ty d.0 d.2 in
              one_valued (some_part (call_of t ss)) (call_value false t ss (Some vs)) x.ret_ty d.0 f.0
              (ap (λ o. then_option o part_of_some) (e ∙ ap Some d.1)) f.1
              (ap (λ o. then_option (then_option o (taken_answer false g.pick (call_of t ss))) single) (c.there ∙ ap Some d.1) ∙ ap (λ y. single (just y)) f.1 ∙ sym (ap single f.1)) f.2
        ]
      where
        not_just : (c : Content) → nothing ≡ just c → ⊥
        not_just c y = cc

    plain_valued : (rec infallible : Bool) (ss : SiteTerms) (o : Option Values) → kind p t ≡ a_call (flags_with false false rec) infallible → In z.demands.made (call_of t ss)
        → AreValued g ss o x.arg_tys ss → IsValued g (call_of t ss) (call_value false t ss o) x.ret_ty (call_of t ss)
    plain_valued rec infallible ss None q i a = grind (arith, common_steps, none_valued)
    plain_valued rec infallible ss (Some vs) q i a =
        let c = call_answers ss vs i a in
        let e = call_content ss vs c.answer a c.there in
        let f = one_fits p x.ret_ty c.answer (constructor_fits p t x there (flags_with false false rec) infallible c.answer q c.right) in
        one_valued (call_of t ss) (call_value false t ss (Some vs)) x.ret_ty c.answer f.0 e f.1
        (ap (λ o. then_option (then_option o (taken_answer false g.pick (call_of t ss))) single) c.there) f.2

    call_valued : (pure multi partial rec infallible : Bool) → pure ≡ true → (a : ValuedAll) (o : Option Values) → kind p t ≡ a_call (record { pure = pure; multi = multi; partial = partial; rec = rec }) infallible
        → Grown (visit_term (a_call (record { pure = pure; multi = multi; partial = partial; rec = rec }) infallible) t a).visit z → AreValued g a.sites o x.arg_tys a.sites
        → IsValued g (term_site (a_call (record { pure = pure; multi = multi; partial = partial; rec = rec }) infallible) t a.sites)
        (then_option o (λ vs. term_under (a_call (record { pure = pure; multi = multi; partial = partial; rec = rec }) infallible) g.meaning g.pick t a.sites vs)) x.ret_ty
        (term_site (a_call (record { pure = pure; multi = multi; partial = partial; rec = rec }) infallible) t a.sites)
    call_valued false multi partial rec infallible y a o q l v = absurd (false≢true y)
    call_valued true true true rec infallible y a o q l v = absurd (well.not_both t (ap (λ k. (flags_of k).multi) q) (ap (λ k. (flags_of k).partial) q))
    call_valued true true false rec infallible y a o q l v =
        let call = call_of t a.sites in
        picked_valued rec infallible a.sites o q (l.made call (in_right a.visit.demands.made (call ∷ (pick_of call ∷ [])) call (inl refl))) (l.calls call (in_right a.visit.demands.iterators (call ∷ []) call (inl refl))) v
    call_valued true false true rec infallible y a o q l v = grind (arith, common_steps, part_valued rec infallible a.sites o q, in_right a.visit.demands.made)
    call_valued true false false rec infallible y a o q l v = grind (arith, common_steps, plain_valued rec infallible a.sites o q, in_right a.visit.demands.made)

    -- a term's value, its arguments having these sites and values
    same_valued : (k : Kind) → kind p t ≡ k → kind_of x ≡ k → (flags_of k).pure ≡ true → (a : ValuedAll) (o : Option Values) → Grown (visit_term k t a).visit z → AreValued g a.sites o x.arg_tys a.sites
        → IsValued g (term_site k t a.sites) (then_option o (λ vs. term_under k g.meaning g.pick t a.sites vs)) x.ret_ty (term_site k t a.sites)
    same_valued (a_variant ty i) q e y a o l v =
        let s = variant_takes p well.parts t x there ty i e in
        made_valued (variant_made ty i a.sites) a.sites o x.arg_tys x.ret_ty (of_variant ty i) refl refl
        (λ vs w.
        and_from (ty == x.ret_ty) (all_well_typed p.types (variant_types (slice_get p.types x.ret_ty) i) vs) (eq-eqb ty x.ret_ty (sym s.0))
        (subst (λ o. all_well_typed p.types o vs ≡ true) (sym s.1 ∙ ap (λ n. variant_types (slice_get p.types n) i) (sym s.0)) w)) v
    same_valued (a_struct ty) q e y a o l v =
        let s = struct_takes p well.parts t x there ty e in
        made_valued (struct_made ty a.sites) a.sites o x.arg_tys x.ret_ty (of_struct ty) refl refl
        (λ vs w.
        and_from (ty == x.ret_ty) (all_well_typed p.types (struct_types (slice_get p.types x.ret_ty)) vs) (eq-eqb ty x.ret_ty (sym s.0))
        (subst (λ o. all_well_typed p.types o vs ≡ true) (sym s.1 ∙ ap (λ n. struct_types (slice_get p.types n)) (sym s.0)) w)) v
    same_valued (a_call flags infallible) q e y a o l v = call_valued flags.pure flags.multi flags.partial flags.rec infallible y a o q l v
    same_valued unknown q e y a o l v = absurd (term_known p t x there q)

    term_valued : (flags_of (kind p t)).pure ≡ true → (a : ValuedAll) (own : SiteTerms) (o : Option Values) → Grown (visit_term (kind p t) t a).visit z → AreValued g own o x.arg_tys a.sites
        → IsValued g (term_site (kind p t) t own) (then_option o (λ vs. term_under (kind p t) g.meaning g.pick t own vs)) x.ret_ty (visit_term (kind p t) t a).site
    term_valued y a own o l v = grind (arith, common_steps, term_site, pure_site, same_valued, its_kind)

  abbrev own_expr : TypedExpr → SitedVars → SiteTerm
  own_expr x e = expr_site p x e 0

  abbrev own_value : TypedExpr → SitedVars → Option Value
  own_value x e = value_under p g.meaning g.pick x e

  mutual
    pub expr_valued : (x : TypedExpr) (v : Visit) (vars : List (ℕ × ℕ)) (e : SitedVars) → is_formed_expr p x vars ≡ true → IsPureExpr p x → AreVars g vars e v.vars → Grown (visit_expr p x v).visit z
        → IsValued g (own_expr x e) (own_value x e) (expr_type x) (visit_expr p x v).site
    expr_valued (make_term ty t args) v vars e f y w l =
        let a = from_term p ty t args vars f in
        let b = visit_exprs p args v in
        let r = exprs_valued args v a.entry.arg_tys vars e a.formed y.1 w (then_grown b.visit (visit_term (kind p t) t b).visit z (term_adds (kind p t) t b).grown l) in
        let s = term_valued t a.entry a.there y.0 b (expr_sites p args e 0) (values_under p g.meaning g.pick args e) l r in
        subst (λ n. IsValued g (own_expr (make_term ty t args) e) (own_value (make_term ty t args) e) n (visit_expr p (make_term ty t args) v).site) a.ret
        (subst (λ u. IsValued g u (own_value (make_term ty t args) e) a.entry.ret_ty (visit_expr p (make_term ty t args) v).site) (sym (pure_site (kind p t) t (visit_exprs p args (visit_at e 0)) y.0)) s)
    expr_valued (make_var ty x) v vars e f y w l = w x ty (type_is (var_type vars x) ty f)
    expr_valued (make_bool ty b) v vars e f y w l =
        constant_valued (bool_term b ty) (literal_value g.meaning (bool_literal b ty)) ty refl (h.bools b ty (l.made (bool_term b ty) (in_right v.demands.made (bool_term b ty ∷ []) (bool_term b ty) (inl refl))))
    expr_valued (make_int ty i) v vars e f y w l =
        constant_valued (int_term i ty) (literal_value g.meaning (int_literal i ty)) ty refl (h.ints i ty (l.made (int_term i ty) (in_right v.demands.made (int_term i ty ∷ []) (int_term i ty) (inl refl))))
    expr_valued (make_prim ty name) v vars e f y w l =
        constant_valued (prim_term name) (constant_value g.meaning name) ty refl
        (h.prims name ty (l.made (prim_term name) (in_right v.demands.made (prim_term name ∷ []) (prim_term name) (inl refl))) (type_is (constant_type p name) ty f))
    expr_valued (make_let ty ds body) v vars e f y w l =
        let a = from_body p ty ds body vars f in
        let u = visit_lets p ds v in
        let k = lets_valued ds v vars a.0 e a.1 y.0 w (then_grown u (visit_expr p body u).visit z (expr_adds p body u).grown l) in
        let r = expr_valued body u a.0 (lets_under p g.meaning g.pick ds e) a.3 y.1 k l in
        let own : own_expr body (lets_under p g.meaning g.pick ds e) ≡ own_expr (make_let ty ds body) e =
        r.site ∙ sym (expr_alike p (make_let ty ds body) v (visit_at e 0) vars f y (λ x i. sym (vars_same g vars e v w x i))) in
        subst (λ n. IsValued g (own_expr (make_let ty ds body) e) (own_value body (lets_under p g.meaning g.pick ds e)) n (visit_expr p body u).site) a.2
        (subst (λ s. IsValued g s (own_value body (lets_under p g.meaning g.pick ds e)) (expr_type body) (visit_expr p body u).site) own r)

    exprs_valued : (xs : TypedExprs) (v : Visit) (tys : List ℕ) (vars : List (ℕ × ℕ)) (e : SitedVars) → are_formed_args p xs tys vars ≡ true → ArePureExprs p xs → AreVars g vars e v.vars → Grown (visit_exprs p xs v).visit z
        → AreValued g (expr_sites p xs e 0) (values_under p g.meaning g.pick xs e) tys (visit_exprs p xs v).sites
    exprs_valued no_typed_expr v [] vars e f y w l = grind (arith, common_steps, some_is)
    exprs_valued no_typed_expr v (ty ∷ tys) vars e f y w l = absurd (false≢true f)
    exprs_valued (typed_expr_and x xs) v [] vars e f y w l = absurd (false≢true f)
    exprs_valued (typed_expr_and x xs) v (ty ∷ tys) vars e f y w l =
        let a = from_args p x xs ty tys vars f in
        let u = (visit_expr p x v).visit in
        let r = expr_valued x v vars e a.1 y.0 w (then_grown u (visit_exprs p xs u).visit z (exprs_add p xs u).grown l) in
        let s = exprs_valued xs u tys vars e a.2 y.1 (vars_moved g vars e v u (expr_keeps p x v vars a.1) w) l in
        let both : Option Value → Option Values → Option Values = λ o q. then_option o (λ c. then_option q (λ cs. Some (value_and c cs))) in
        record {
          sites = exprs_alike p (typed_expr_and x xs) v (visit_at e 0) (ty ∷ tys) vars f y (λ n i. sym (vars_same g vars e v w n i));
          values = ap₂ both r.value s.values;
          typed = λ vs q.
              let b = from_then (own_value x e) (λ c. then_option (values_under p g.meaning g.pick xs e) (λ cs. Some (value_and c cs))) vs q in
              let d = from_then (values_under p g.meaning g.pick xs e) (λ cs. Some (value_and b.0 cs)) vs b.2 in
              subst (λ us. all_well_typed p.types (Some (ty ∷ tys)) us ≡ true) (some_is (value_and b.0 d.0) vs d.2)
              (and_from (well_typed p.types ty b.0) (all_well_typed p.types (Some tys) d.0) (subst (λ n. well_typed p.types n b.0 ≡ true) a.0 (r.typed b.0 b.1)) (s.typed d.0 d.1));
          reached = λ q.
              let b = r.reached (λ n i. q n (in_left (unwraps (visit_expr p x v).site) (unwraps_all (visit_exprs p xs u).sites) n i)) in
              let d = s.reached (λ n i. q n (in_right (unwraps (visit_expr p x v).site) (unwraps_all (visit_exprs p xs u).sites) n i)) in
              (value_and b.0 d.0, ap₂ both b.1 d.1);
        }

    lets_valued : (ds : TypedLets) (v : Visit) (vars more : List (ℕ × ℕ)) (e : SitedVars) → formed_lets p ds vars ≡ Some more → ArePureLets p ds → AreVars g vars e v.vars → Grown (visit_lets p ds v) z
        → AreVars g more (lets_under p g.meaning g.pick ds e) (visit_lets p ds v).vars
    lets_valued no_typed_let v vars more e f y w l = subst (λ vs. AreVars g vs e v.vars) (some_is vars more f) w
    lets_valued (typed_let_and x ty value rest) v vars more e f y w l =
        let a = from_let p x ty value rest vars more f in
        let b = visit_expr p value v in
        let u = binding x b.site b.visit in
        let r = expr_valued value v vars e a.1 y.0 w
        (then_grown b.visit u z (grown_binding x b.site b.visit) (then_grown u (visit_lets p rest u) z (lets_add p rest u).grown l)) in
        lets_valued rest u ((x, ty) ∷ vars) more ((x, sited (own_expr value e) (own_value value e)) ∷ e) a.3 y.1
        (vars_and g x ty vars (own_expr value e) b.site (own_value value e) e b.visit.vars a.2
        (subst (λ n. IsValued g (own_expr value e) (own_value value e) n b.site) a.0 r)
        (vars_moved g vars e v b.visit (expr_keeps p value v vars a.1) w)) l
