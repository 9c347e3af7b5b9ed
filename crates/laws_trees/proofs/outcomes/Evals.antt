-- A right side does what following the impure calls of its visit does, and gives what its site holds.
use Rattle.std.proofs.Common.{◌≡◌, ◌⊎◌, ℕ, suc, Bool, true, false, List, [], ◌∷◌, ◌++◌, length, take, Option, Some, None, is_some, slice_get, All, IsTrue, refl, sym, ap, subst, ◌∙◌, inl, inr, arith}
use Rattle.std.proofs.lemmas.Bool.{false≢true}
use Rattle.std.proofs.lemmas.List.{length_push, length-append}
use Rattle.std.proofs.Math.Seq.{take-append_seam}
use Rattle.std.proofs.lemmas.Grind.{common_steps}
use Rattle.model.specs.lists.Tables.{TermEntry}
use Rattle.model.specs.rules.Values.{Value, of_variant, of_struct, Values, value_and}
use Rattle.model.specs.rules.Meaning.{Content, one, pure_answer, impure_answer}
use Rattle.model.specs.rules.Outcome.{Call, then_option}
use Rattle.model.specs.rules.Matching.{single}
use Rattle.model.specs.rules.Program.{Program, Kind, a_variant, a_struct, a_call, unknown, kind, flags_of, is_pure, is_multi}
use Rattle.model.specs.rules.CalledTerms.{CallsAlone, CallAlone, LetsCallAlone}
use Rattle.model.specs.rules.RightSide.{Eval, gives, ends, EvalAll, gives_all, ends_all, or_end, pair_up, then_rest, outcome_of}
use Rattle.model.specs.rules.Typed.{TypedExpr, make_term, make_var, make_bool, make_int, make_prim, make_let, TypedExprs, no_typed_expr, typed_expr_and, TypedLets, no_typed_let, typed_let_and}
use Rattle.model.specs.rules.Picks.{picked, taken_answer, call_answer, SitedVars, sited, sited_value, sites_in, visit_at, expr_site, expr_sites, impure_under, applied_under, apply_under, SitedLets, gives_sited, ends_sited, then_sited_lets, then_sited_body, eval_under, eval_all_under, eval_lets_under, HasContent}
use Rattle.model.specs.trees.Run.{as_value, from_value}
use Rattle.model.specs.sites.Sites.{SiteTerm, constructor_call, pick_of, some_part, SiteTerms, site_term_and}
use Rattle.model.specs.visits.Demands.{Visit, binding, Valued, ValuedAll, call_result, visit_call, visit_term, visit_expr, visit_exprs, visit_lets, finished}
use Rattle.model.specs.sites.DemandedGates.{HasNoPartialMulti}
use Rattle.model.specs.sites.Serves.{fits_answer, fits_constructor}
use Rattle.model.specs.lists.Formed.{var_type, is_formed_expr, are_formed_args, formed_lets}
use Rattle.model.proofs.Elements.{In, in_right, some_is}
use Rattle.model.proofs.Options.{is_there}
use Rattle.laws_trees.proofs.taking.FollowedCalls.{Followed, goes_on, stops, then_follow, follow_with, follow, follow_there, follow_append, result_after}
use Rattle.laws_sites.proofs.AskedSites.{Same}
use Rattle.laws_sites.proofs.Patterns.{term_known}
use Rattle.laws_trees.proofs.Contents.{Given, content_of, values_of, Fits, IsAnswered, one_fits, maybe_fits, picked_fits, constructor_fits}
use Rattle.laws_sites.proofs.GrowingVisits.{Grown, then_grown, grown_binding, expr_adds, exprs_add, lets_add, term_adds}
use Rattle.laws_sites.proofs.SameExprs.{from_let, from_term, from_args, from_body, expr_keeps}
use Rattle.laws_trees.proofs.Variables.{named}
use Rattle.laws_trees.proofs.outcomes.Ordered.{CountsCalls}
use Rattle.laws_sites.proofs.ImpureCallsMet.{AddsCalls, adds_kept, then_adds_calls, term_adds_calls, expr_adds_calls, exprs_add_calls, lets_add_calls}
use Rattle.laws_sites.proofs.SitesAlike.{expr_sited, exprs_sited}
use Rattle.laws_typing.proofs.FormedParts.{type_is}

-- 1. a variable's own site is the visit's, which holds its value and nothing else
pub record IsWorth (g : Given) (own : SiteTerm) (o : Option Value) (s : SiteTerm) : Type 0 where
  pub site : own ≡ s
  pub content : content_of g s ≡ from_value o

abbrev pub AreWorth : Given → List (ℕ × ℕ) → SitedVars → List (ℕ × SiteTerm) → Type 0
AreWorth g vars e vs = (x ty : ℕ) → var_type vars x ≡ Some ty → IsWorth g (named (sites_in e) x) (sited_value e x) (named vs x)

worth_moved : (g : Given) (vars : List (ℕ × ℕ)) (e : SitedVars) (v w : Visit) → Same vars v w → AreWorth g vars e v.vars → AreWorth g vars e w.vars
worth_moved g vars e v w s f x ty h = grind (arith, common_steps, content_of)

worth_and : (g : Given) (x ty : ℕ) (vars : List (ℕ × ℕ)) (own s : SiteTerm) (o : Option Value) (e : SitedVars) (vs : List (ℕ × SiteTerm)) → is_some (var_type vars x) ≡ false
    → IsWorth g own o s → AreWorth g vars e vs → AreWorth g ((x, ty) ∷ vars) ((x, sited own o) ∷ e) ((x, s) ∷ vs)
worth_and g x ty vars own s o e vs new h f y u q = grind (arith, common_steps, named, content_of)

-- the visits name variables alike
worth_same : (g : Given) (vars : List (ℕ × ℕ)) (e : SitedVars) (v : Visit) (n : ℕ) → AreWorth g vars e v.vars → Same vars v (visit_at e n)
worth_same g vars e v n f x h = let t = is_there (var_type vars x) h in (f x t.0 t.1).site

-- 2. what an expression comes to: as many calls as its visit met, and what its site holds; or it ended
abbrev pub Comes : Given → SiteTerm → ℕ → Followed → Eval → Type 0
Comes g s n (goes_on calls) (gives o calls') = (calls ≡ calls') × (length calls' ≡ n) × (content_of g s ≡ from_value o)
Comes g s n (stops calls) (ends calls') = calls ≡ calls'
Comes g s n _ _ = ⊥

abbrev ComesAll : Given → SiteTerms → ℕ → Followed → EvalAll → Type 0
ComesAll g ss n (goes_on calls) (gives_all o calls') = (calls ≡ calls') × (length calls' ≡ n) × (values_of g ss ≡ o)
ComesAll g ss n (stops calls) (ends_all calls') = calls ≡ calls'
ComesAll g ss n _ _ = ⊥

abbrev ComesLets : Given → List (ℕ × ℕ) → Visit → Followed → SitedLets → Type 0
ComesLets g vars w (goes_on calls) (gives_sited e calls') = (calls ≡ calls') × (length calls' ≡ w.impure_calls) × AreWorth g vars e w.vars
ComesLets g vars w (stops calls) (ends_sited calls') = calls ≡ calls'
ComesLets g vars w _ _ = ⊥

abbrev pub follow_in : Given → List SiteTerm → List Call → Followed
follow_in g us calls = follow g.meaning g.args g.pick us calls

pub record Came (g : Given) (v : Visit) (a : Valued) (calls : List Call) (ev : Eval) : Type 0 where
  pub adds : AddsCalls v a.visit
  pub comes : Comes g a.site a.visit.impure_calls (follow_in g adds.new calls) ev

record CameAll (g : Given) (v : Visit) (a : ValuedAll) (calls : List Call) (ev : EvalAll) : Type 0 where
  adds : AddsCalls v a.visit
  comes : ComesAll g a.sites a.visit.impure_calls (follow_in g adds.new calls) ev

record CameLets (g : Given) (v : Visit) (vars : List (ℕ × ℕ)) (w : Visit) (calls : List Call) (ev : SitedLets) : Type 0 where
  adds : AddsCalls v w
  comes : ComesLets g vars w (follow_in g adds.new calls) ev

-- as many impure calls were made as a visit met, and each gave a value
abbrev GaveAll : Given → List SiteTerm → Type 0
GaveAll g us = All (HasContent g.meaning g.args g.pick) us

pub record IsFollowed (g : Given) (v : Visit) (calls : List Call) : Type 0 where
  pub made : length calls ≡ v.impure_calls
  pub count : CountsCalls v
  pub gave : GaveAll g v.demands.impure

followed_on : (g : Given) (v w : Visit) (calls after : List Call) (adds : AddsCalls v w) → IsFollowed g v calls → follow_in g adds.new calls ≡ goes_on after → length after ≡ w.impure_calls → IsFollowed g w after
followed_on g v w calls after adds f h made = grind (arith, common_steps, follow_there, length-append)

-- 3. parts one after another
values_both : (g : Given) (s : SiteTerm) (o : Option Value) (q : Option Values) → content_of g s ≡ from_value o
    → then_option (then_option (content_of g s) as_value) (λ v. then_option q (λ vs. Some (value_and v vs))) ≡ then_option o (λ v. then_option q (λ vs. Some (value_and v vs)))
values_both g s o q h = grind (arith, common_steps)

module _ (g : Given) where
  paired : (s : SiteTerm) (ss : SiteTerms) (n : ℕ) (o : Option Value) → content_of g s ≡ from_value o → (f : Followed) (ev : EvalAll) → ComesAll g ss n f ev → ComesAll g (site_term_and s ss) n f (pair_up o ev)
  paired s ss n o h f ev k = grind (arith, common_steps, values_both, values_of)

  -- arguments after one of them
  then_args : (v : Visit) (a : Valued) (b : ValuedAll) (calls : List Call) (adds : AddsCalls v a.visit) (f : Followed) (ev : Eval) → follow_in g adds.new calls ≡ f → Comes g a.site a.visit.impure_calls f ev → AddsCalls a.visit b.visit → IsFollowed g v calls
      → (go : List Call → EvalAll) → ((c : List Call) → IsFollowed g a.visit c → CameAll g a.visit b c (go c)) → CameAll g v (record { sites = site_term_and a.site b.sites; visit = b.visit }) calls (then_rest ev go)
  then_args v a b calls adds (goes_on c) (gives o c') q k more start go later =
      let r = later c' (followed_on g v a.visit calls c' adds start (q ∙ ap goes_on k.0) k.1) in
      record {
        adds = then_adds_calls v a.visit b.visit adds r.adds;
        comes =
            subst (λ f. ComesAll g (site_term_and a.site b.sites) b.visit.impure_calls f (pair_up o (go c'))) (sym (follow_append g.meaning g.args g.pick adds.new r.adds.new calls ∙ ap (λ f. then_follow f (follow_in g r.adds.new)) q ∙ ap (follow_in g r.adds.new) k.0))
            (paired a.site b.sites b.visit.impure_calls o k.2 (follow_in g r.adds.new c') (go c') r.comes);
      }
  then_args v a b calls adds (stops c) (ends c') q k more start go later = record {
    adds = then_adds_calls v a.visit b.visit adds more;
    comes = subst (λ f. ComesAll g (site_term_and a.site b.sites) b.visit.impure_calls f (ends_all c')) (sym (follow_append g.meaning g.args g.pick adds.new more.new calls ∙ ap (λ f. then_follow f (follow_in g more.new)) q)) k;
  }
  then_args v a b calls adds (goes_on c) (ends c') q k more start go later = absurd k
  then_args v a b calls adds (stops c) (gives o c') q k more start go later = absurd k

  -- definitions after one of them
  then_defs : (v : Visit) (x : ℕ) (a : Valued) (vars : List (ℕ × ℕ)) (w : Visit) (calls : List Call) (adds : AddsCalls v a.visit) (f : Followed) (ev : Eval) → follow_in g adds.new calls ≡ f → Comes g a.site a.visit.impure_calls f ev
      → AddsCalls (binding x a.site a.visit) w → IsFollowed g v calls → (go : Option Value → List Call → SitedLets)
      → ((o : Option Value) (c : List Call) → IsFollowed g (binding x a.site a.visit) c → content_of g a.site ≡ from_value o → CameLets g (binding x a.site a.visit) vars w c (go o c)) → CameLets g v vars w calls (then_sited_lets ev go)
  then_defs v x a vars w calls adds (goes_on c) (gives o c') q k more start go later =
      let first : AddsCalls v (binding x a.site a.visit) = record { new = adds.new; impure = adds.impure } in
      let r = later o c' (followed_on g v (binding x a.site a.visit) calls c' first start (q ∙ ap goes_on k.0) k.1) k.2 in
      record {
        adds = then_adds_calls v (binding x a.site a.visit) w first r.adds;
        comes =
            subst (λ f. ComesLets g vars w f (go o c')) (sym (follow_append g.meaning g.args g.pick adds.new r.adds.new calls ∙ ap (λ f. then_follow f (follow_in g r.adds.new)) q ∙ ap (follow_in g r.adds.new) k.0)) r.comes;
      }
  then_defs v x a vars w calls adds (stops c) (ends c') q k more start go later = record {
    adds = then_adds_calls v (binding x a.site a.visit) w (record { new = adds.new; impure = adds.impure }) more;
    comes = subst (λ f. ComesLets g vars w f (ends_sited c')) (sym (follow_append g.meaning g.args g.pick adds.new more.new calls ∙ ap (λ f. then_follow f (follow_in g more.new)) q)) k;
  }
  then_defs v x a vars w calls adds (goes_on c) (ends c') q k more start go later = absurd k
  then_defs v x a vars w calls adds (stops c) (gives o c') q k more start go later = absurd k

  -- a body after its definitions
  then_the_body : (v : Visit) (vars : List (ℕ × ℕ)) (w : Visit) (a : Valued) (calls : List Call) (adds : AddsCalls v w) (f : Followed) (ev : SitedLets) → follow_in g adds.new calls ≡ f → ComesLets g vars w f ev → AddsCalls w a.visit → IsFollowed g v calls
      → (go : SitedVars → List Call → Eval) → ((e : SitedVars) (c : List Call) → IsFollowed g w c → AreWorth g vars e w.vars → Came g w a c (go e c)) → Came g v a calls (then_sited_body ev go)
  then_the_body v vars w a calls adds (goes_on c) (gives_sited e c') q k more start go later =
      let r = later e c' (followed_on g v w calls c' adds start (q ∙ ap goes_on k.0) k.1) k.2 in
      record {
        adds = then_adds_calls v w a.visit adds r.adds;
        comes =
            subst (λ f. Comes g a.site a.visit.impure_calls f (go e c')) (sym (follow_append g.meaning g.args g.pick adds.new r.adds.new calls ∙ ap (λ f. then_follow f (follow_in g r.adds.new)) q ∙ ap (follow_in g r.adds.new) k.0)) r.comes;
      }
  then_the_body v vars w a calls adds (stops c) (ends_sited c') q k more start go later = record {
    adds = then_adds_calls v w a.visit adds more;
    comes = subst (λ f. Comes g a.site a.visit.impure_calls f (ends c')) (sym (follow_append g.meaning g.args g.pick adds.new more.new calls ∙ ap (λ f. then_follow f (follow_in g more.new)) q)) k;
  }
  then_the_body v vars w a calls adds (goes_on c) (ends_sited c') q k more start go later = absurd k
  then_the_body v vars w a calls adds (stops c) (gives_sited e c') q k more start go later = absurd k

-- 4. what the site of a call's answer holds
answer_holds : (g : Given) (pure multi partial rec : Bool) (ty : ℕ) (call : SiteTerm) (c : Content) → (multi ≡ true → partial ≡ true → ⊥) → content_of g call ≡ Some c → fits_answer g.program multi partial (ty ∷ []) c ≡ true
    → content_of g (call_result (record { pure = pure; multi = multi; partial = partial; rec = rec }) call) ≡ from_value (then_option (taken_answer multi g.pick call c) single)
answer_holds g pure true true rec ty call c n e f = absurd (n refl refl)
answer_holds g pure false false rec ty call c n e f = let a = one_fits g.program ty c f in e ∙ ap Some a.1 ∙ sym (ap (λ y. from_value (single y)) a.1)
answer_holds g pure false true rec ty call c n e f = grind (arith, common_steps, maybe_fits, one_fits)
answer_holds g pure true false rec ty call c n e f = ap (λ o. then_option o (picked g.pick call)) e ∙ taken (picked g.pick call c) refl
  where
    taken : (o : Option Content) → picked g.pick call c ≡ o → o ≡ from_value (then_option o single)
    taken None q = refl
    taken (Some d) q = let a = one_fits g.program ty d (picked_fits g.program false (ty ∷ []) g.pick call c d f q) in ap Some a.1 ∙ sym (ap (λ y. from_value (single y)) a.1)

none_holds : (g : Given) (pure multi partial rec : Bool) (call : SiteTerm) → content_of g call ≡ None → content_of g (call_result (record { pure = pure; multi = multi; partial = partial; rec = rec }) call) ≡ None
none_holds g pure multi partial rec call h = grind (arith, common_steps)

made_holds : (o : Option Values) (f : Values → Value) → then_option o (λ vs. Some (one (f vs))) ≡ from_value (then_option o (λ vs. Some (f vs)))
made_holds o f = grind (arith, common_steps)

-- a call that was made goes on where its answer's site holds a value
made_comes : (g : Given) (s : SiteTerm) (n t : ℕ) (vs : Values) (calls : List Call) (v : Option Value) → content_of g s ≡ from_value v → length calls ≡ n
    → Comes g s (suc n) (then_follow (follow_with t (Some vs) (from_value v) calls) goes_on) (or_end v (calls ++ record { term = t; args = vs } ∷ []))
made_comes g s n t vs calls v h q = grind (arith, common_steps, length_push)

-- 5. terms
-- an impure call of this term that a visit makes is answered, where those before it gave values and its arguments have some
abbrev pub IsServedCall : Given → Visit → ℕ → Type 0
IsServedCall g z t =
    (ss : SiteTerms) (n : ℕ) (vs : Values) → In z.demands.made (constructor_call t ss (suc n)) → GaveAll g (take n z.demands.impure) → values_of g ss ≡ Some vs → Fits (impure_answer g.meaning t n) (fits_constructor g.program t (kind g.program t))

-- a term is pure, or answers once and is answered
abbrev pub MayBeCalled : Given → Visit → ℕ → Type 0
MayBeCalled g z t = IsTrue (is_pure g.program t) ⊎ ((is_multi g.program t ≡ false) × IsServedCall g z t)

module _ (g : Given) (z : Visit) (h : IsAnswered g z.demands) (neither : HasNoPartialMulti g.program) where
  abbrev p : Program
  p = g.program

  -- a term, after its arguments
  abbrev TermCame : ValuedAll → Valued → Followed → Eval → Type 0
  TermCame a b f ev = (adds : AddsCalls a.visit b.visit) × Comes g b.site b.visit.impure_calls (then_follow f (follow_in g adds.new)) ev

  module _ (t : ℕ) (x : TermEntry) (there : slice_get p.terms t ≡ Some x) where
    not_both : (pure multi partial rec infallible : Bool) → kind p t ≡ a_call (record { pure = pure; multi = multi; partial = partial; rec = rec }) infallible → multi ≡ true → partial ≡ true → ⊥
    not_both pure multi partial rec infallible q m n = neither t (ap (λ k. (flags_of k).multi) q ∙ m) (ap (λ k. (flags_of k).partial) q ∙ n)

    pure_holds : (multi partial rec infallible : Bool) → kind p t ≡ a_call (record { pure = true; multi = multi; partial = partial; rec = rec }) infallible → (ss : SiteTerms) (o : Option Values) → values_of g ss ≡ o → In z.demands.made (constructor_call t ss 0)
        → content_of g (call_result (record { pure = true; multi = multi; partial = partial; rec = rec }) (constructor_call t ss 0))
        ≡ from_value (then_option o (λ ws. then_option (then_option (pure_answer g.meaning t ws) (taken_answer multi g.pick (constructor_call t ss 0))) single))
    pure_holds multi partial rec infallible q ss o e i = grind (arith, common_steps, none_holds, answer_holds, not_both, constructor_fits)

    impure_comes : (partial rec infallible : Bool) → kind p t ≡ a_call (record { pure = false; multi = false; partial = partial; rec = rec }) infallible → IsServedCall g z t → (ss own : SiteTerms) (n : ℕ) (o : Option Values) → values_of g ss ≡ o
        → In z.demands.made (constructor_call t ss (suc n)) → GaveAll g (take n z.demands.impure) → (calls : List Call) → length calls ≡ n
        → Comes g (call_result (record { pure = false; multi = false; partial = partial; rec = rec }) (constructor_call t ss (suc n))) (suc n)
        (then_follow (follow_with t (values_of g ss) (content_of g (call_result (record { pure = false; multi = false; partial = partial; rec = rec }) (constructor_call t ss (suc n)))) calls) goes_on)
        (impure_under false g.meaning g.pick t own o calls)
    impure_comes partial rec infallible q served ss own n None e i gave calls len = grind (arith, common_steps, then_follow, follow_with, content_of)
    impure_comes partial rec infallible q served ss own n (Some vs) e i gave calls len =
        let u = call_result (record { pure = false; multi = false; partial = partial; rec = rec }) (constructor_call t ss (suc n)) in
        let c = served ss n vs i gave e in
        let after = calls ++ record { term = t; args = vs } ∷ [] in
        let holds : content_of g u ≡ from_value (single c.answer) =
        answer_holds g false false partial rec x.ret_ty (constructor_call t ss (suc n)) c.answer (not_both false false partial rec infallible q) (ap (λ r. then_option r (call_answer g.meaning t (suc n))) e ∙ c.there)
        (constructor_fits p t x there (record { pure = false; multi = false; partial = partial; rec = rec }) infallible c.answer q c.right) in
        let answered : impure_answer g.meaning t (length calls) ≡ Some c.answer = ap (impure_answer g.meaning t) len ∙ c.there in
        subst (λ r. Comes g u (suc n) (then_follow (follow_with t r (content_of g u) calls) goes_on) (impure_under false g.meaning g.pick t own (Some vs) calls)) (sym e)
        (subst (λ r. Comes g u (suc n) (then_follow (follow_with t (Some vs) r calls) goes_on) (impure_under false g.meaning g.pick t own (Some vs) calls)) (sym holds)
        (subst (λ r. Comes g u (suc n) (then_follow (follow_with t (Some vs) (from_value (single c.answer)) calls) goes_on) (or_end (then_option (then_option r (taken_answer false g.pick (constructor_call t own (suc (length calls))))) single) after)) (sym answered)
        (made_comes g u n t vs calls (single c.answer) holds len)))

    -- the calls before the next one are the first of all
    gave_first : (a v : Visit) (calls : List Call) → AddsCalls a v → IsFollowed g a calls → GaveAll g (take a.impure_calls v.demands.impure)
    gave_first a v calls adds f = grind (arith, common_steps, take-append_seam)

    call_came : (pure multi partial rec infallible : Bool) → kind p t ≡ a_call (record { pure = pure; multi = multi; partial = partial; rec = rec }) infallible → (pure ≡ true) ⊎ ((multi ≡ false) × IsServedCall g z t) → (a : ValuedAll) (o : Option Values) → values_of g a.sites ≡ o
        → Grown (visit_call (record { pure = pure; multi = multi; partial = partial; rec = rec }) t a.sites a.visit).visit z → AddsCalls a.visit z → (calls : List Call) → IsFollowed g a.visit calls
        → TermCame a (visit_call (record { pure = pure; multi = multi; partial = partial; rec = rec }) t a.sites a.visit) (goes_on calls) (applied_under (a_call (record { pure = pure; multi = multi; partial = partial; rec = rec }) infallible) g.meaning g.pick t a.sites o calls)
    call_came true true true rec infallible q s a o e l more calls start = absurd (not_both true true true rec infallible q refl refl)
    call_came true true false rec infallible q s a o e l more calls start =
        let call = constructor_call t a.sites 0 in (
          adds_kept a.visit (visit_call (record { pure = true; multi = true; partial = false; rec = rec }) t a.sites a.visit).visit refl,
          (refl, start.made, pure_holds true false rec infallible q a.sites o e (l.made call (in_right a.visit.demands.made (call ∷ (pick_of call ∷ [])) call (inl refl)))),
        )
    call_came true false true rec infallible q s a o e l more calls start =
        let call = constructor_call t a.sites 0 in (
          adds_kept a.visit (visit_call (record { pure = true; multi = false; partial = true; rec = rec }) t a.sites a.visit).visit refl,
          (refl, start.made, pure_holds false true rec infallible q a.sites o e (l.made call (in_right a.visit.demands.made (call ∷ (some_part call ∷ [])) call (inl refl)))),
        )
    call_came true false false rec infallible q s a o e l more calls start =
        let call = constructor_call t a.sites 0 in (
          adds_kept a.visit (visit_call (record { pure = true; multi = false; partial = false; rec = rec }) t a.sites a.visit).visit refl,
          (refl, start.made, pure_holds false false rec infallible q a.sites o e (l.made call (in_right a.visit.demands.made (call ∷ []) call (inl refl)))),
        )
    call_came false multi partial rec infallible q (inl s) a o e l more calls start = absurd (false≢true s)
    call_came false true partial rec infallible q (inr s) a o e l more calls start = absurd (false≢true (sym s.0))
    call_came false false true rec infallible q (inr s) a o e l more calls start =
        let n = a.visit.impure_calls in
        let call = constructor_call t a.sites (suc n) in (
          record { new = some_part call ∷ []; impure = refl },
          impure_comes true rec infallible q s.1 a.sites a.sites n o e (l.made call (in_right a.visit.demands.made (call ∷ (some_part call ∷ [])) call (inl refl))) (gave_first a.visit z calls more start) calls start.made,
        )
    call_came false false false rec infallible q (inr s) a o e l more calls start =
        let n = a.visit.impure_calls in
        let call = constructor_call t a.sites (suc n) in (
          record { new = call ∷ []; impure = refl },
          impure_comes false rec infallible q s.1 a.sites a.sites n o e (l.made call (in_right a.visit.demands.made (call ∷ []) call (inl refl))) (gave_first a.visit z calls more start) calls start.made,
        )

    goes_came : (k : Kind) → kind p t ≡ k → IsTrue (flags_of k).pure ⊎ (((flags_of k).multi ≡ false) × IsServedCall g z t) → (a : ValuedAll) (o : Option Values) → values_of g a.sites ≡ o → Grown (visit_term k t a).visit z → AddsCalls a.visit z → (calls : List Call) → IsFollowed g a.visit calls
        → TermCame a (visit_term k t a) (goes_on calls) (applied_under k g.meaning g.pick t a.sites o calls)
    goes_came (a_variant ty variant) q s a o e l more calls start =
        (adds_kept a.visit (visit_term (a_variant ty variant) t a).visit refl, (refl, start.made, ap (λ r. then_option r (λ vs. Some (one (of_variant ty variant vs)))) e ∙ made_holds o (of_variant ty variant)))
    goes_came (a_struct ty) q s a o e l more calls start =
        (adds_kept a.visit (visit_term (a_struct ty) t a).visit refl, (refl, start.made, ap (λ r. then_option r (λ vs. Some (one (of_struct ty vs)))) e ∙ made_holds o (of_struct ty)))
    goes_came (a_call flags infallible) q s a o e l more calls start = call_came flags.pure flags.multi flags.partial flags.rec infallible q s a o e l more calls start
    goes_came unknown q s a o e l more calls start = absurd (term_known p t x there q)

    term_came : MayBeCalled g z t → (a : ValuedAll) (own : SiteTerms) → own ≡ a.sites → Grown (visit_term (kind p t) t a).visit z → AddsCalls a.visit z → (f : Followed) (ev : EvalAll) → ComesAll g a.sites a.visit.impure_calls f ev
        → ((c : List Call) → f ≡ goes_on c → length c ≡ a.visit.impure_calls → IsFollowed g a.visit c) → TermCame a (visit_term (kind p t) t a) f (apply_under (kind p t) g.meaning g.pick t own ev)
    term_came s a own same l more (goes_on c) (gives_all o c') k start =
        subst (λ ss. TermCame a (visit_term (kind p t) t a) (goes_on c) (applied_under (kind p t) g.meaning g.pick t ss o c')) (sym same)
        (subst (λ d. TermCame a (visit_term (kind p t) t a) (goes_on d) (applied_under (kind p t) g.meaning g.pick t a.sites o c')) (sym k.0)
        (goes_came (kind p t) refl s a o k.2 l more c' (start c' (ap goes_on k.0) k.1)))
    term_came s a own same l more (stops c) (ends_all c') k start = (term_adds_calls (kind p t) t a, k)
    term_came s a own same l more (goes_on c) (ends_all c') k start = absurd k
    term_came s a own same l more (stops c) (gives_all o c') k start = absurd k

  -- 6. expressions
  mutual
    pub expr_came : (x : TypedExpr) (v : Visit) (vars : List (ℕ × ℕ)) (e : SitedVars) (calls : List Call) → is_formed_expr p x vars ≡ true → CallsAlone (MayBeCalled g z) x → AreWorth g vars e v.vars → IsFollowed g v calls → Grown (visit_expr p x v).visit z → AddsCalls (visit_expr p x v).visit z
        → Came g v (visit_expr p x v) calls (eval_under p g.meaning g.pick x e calls)
    expr_came (make_term ty t args) v vars e calls f s w n l m =
        let a = from_term p ty t args vars f in
        let b = visit_exprs p args v in
        let adds = then_adds_calls b.visit (visit_term (kind p t) t b).visit z (term_adds_calls (kind p t) t b) m in
        let r = exprs_came args v a.entry.arg_tys vars e calls a.formed s.1 w n (then_grown b.visit (visit_term (kind p t) t b).visit z (term_adds (kind p t) t b).grown l) adds in
        let own = exprs_sited p args v (visit_at e (length calls)) a.entry.arg_tys vars a.formed (worth_same g vars e v (length calls) w) n.made in
        let q = term_came t a.entry a.there s.0 b (expr_sites p args e (length calls)) own.sites l adds (follow_in g r.adds.new calls) (eval_all_under p g.meaning g.pick args e calls) r.comes
        (λ c k made. followed_on g v b.visit calls c r.adds n k made) in
        record {
          adds = then_adds_calls v b.visit (visit_term (kind p t) t b).visit r.adds q.0;
          comes =
              subst (λ u. Comes g (visit_term (kind p t) t b).site (visit_term (kind p t) t b).visit.impure_calls u (eval_under p g.meaning g.pick (make_term ty t args) e calls)) (sym (follow_append g.meaning g.args g.pick r.adds.new q.0.new calls)) q.1;
        }
    expr_came (make_var ty x) v vars e calls f s w n l m = record { adds = adds_kept v v refl; comes = (refl, n.made, (w x ty (type_is (var_type vars x) ty f)).content) }
    expr_came (make_bool ty b) v vars e calls f s w n l m = record { adds = adds_kept v (visit_expr p (make_bool ty b) v).visit refl; comes = (refl, n.made, refl) }
    expr_came (make_int ty i) v vars e calls f s w n l m = record { adds = adds_kept v (visit_expr p (make_int ty i) v).visit refl; comes = (refl, n.made, refl) }
    expr_came (make_prim ty name) v vars e calls f s w n l m = record { adds = adds_kept v (visit_expr p (make_prim ty name) v).visit refl; comes = (refl, n.made, refl) }
    expr_came (make_let ty ds body) v vars e calls f s w n l m =
        let a = from_body p ty ds body vars f in
        let u = visit_lets p ds v in
        let r = lets_came ds v vars a.0 e calls a.1 s.0 w n (then_grown u (visit_expr p body u).visit z (expr_adds p body u).grown l) (then_adds_calls u (visit_expr p body u).visit z (expr_adds_calls p body u) m) in
        then_the_body g v a.0 u (visit_expr p body u) calls r.adds (follow_in g r.adds.new calls) (eval_lets_under p g.meaning g.pick ds e calls) refl r.comes (expr_adds_calls p body u) n (λ e' c. eval_under p g.meaning g.pick body e' c)
        (λ e' c k y. expr_came body u a.0 e' c a.3 s.1 y k l m)

    exprs_came : (xs : TypedExprs) (v : Visit) (tys : List ℕ) (vars : List (ℕ × ℕ)) (e : SitedVars) (calls : List Call) → are_formed_args p xs tys vars ≡ true → CallAlone (MayBeCalled g z) xs → AreWorth g vars e v.vars → IsFollowed g v calls → Grown (visit_exprs p xs v).visit z → AddsCalls (visit_exprs p xs v).visit z
        → CameAll g v (visit_exprs p xs v) calls (eval_all_under p g.meaning g.pick xs e calls)
    exprs_came no_typed_expr v [] vars e calls f s w n l m = record { adds = adds_kept v v refl; comes = (refl, n.made, refl) }
    exprs_came no_typed_expr v (ty ∷ tys) vars e calls f s w n l m = absurd (false≢true f)
    exprs_came (typed_expr_and x xs) v [] vars e calls f s w n l m = absurd (false≢true f)
    exprs_came (typed_expr_and x xs) v (ty ∷ tys) vars e calls f s w n l m =
        let a = from_args p x xs ty tys vars f in
        let b = visit_expr p x v in
        let u = b.visit in
        let r = expr_came x v vars e calls a.1 s.0 w n (then_grown u (visit_exprs p xs u).visit z (exprs_add p xs u).grown l) (then_adds_calls u (visit_exprs p xs u).visit z (exprs_add_calls p xs u) m) in
        then_args g v b (visit_exprs p xs u) calls r.adds (follow_in g r.adds.new calls) (eval_under p g.meaning g.pick x e calls) refl r.comes (exprs_add_calls p xs u) n (λ c. eval_all_under p g.meaning g.pick xs e c)
        (λ c k. exprs_came xs u tys vars e c a.2 s.1 (worth_moved g vars e v u (expr_keeps p x v vars a.1) w) k l m)

    lets_came : (ds : TypedLets) (v : Visit) (vars more : List (ℕ × ℕ)) (e : SitedVars) (calls : List Call) → formed_lets p ds vars ≡ Some more → LetsCallAlone (MayBeCalled g z) ds → AreWorth g vars e v.vars → IsFollowed g v calls → Grown (visit_lets p ds v) z → AddsCalls (visit_lets p ds v) z
        → CameLets g v more (visit_lets p ds v) calls (eval_lets_under p g.meaning g.pick ds e calls)
    lets_came no_typed_let v vars more e calls f s w n l m = record { adds = adds_kept v v refl; comes = (refl, n.made, subst (λ vs. AreWorth g vs e v.vars) (some_is vars more f) w) }
    lets_came (typed_let_and x ty value rest) v vars more e calls f s w n l m =
        let a = from_let p x ty value rest vars more f in
        let b = visit_expr p value v in
        let u = binding x b.site b.visit in
        let after = then_adds_calls u (visit_lets p rest u) z (lets_add_calls p rest u) m in
        let r = expr_came value v vars e calls a.1 s.0 w n (then_grown b.visit u z (grown_binding x b.site b.visit) (then_grown u (visit_lets p rest u) z (lets_add p rest u).grown l)) (record { new = after.new; impure = after.impure }) in
        let own = expr_sited p value v (visit_at e (length calls)) vars a.1 (worth_same g vars e v (length calls) w) n.made in
        then_defs g v x b more (visit_lets p rest u) calls r.adds (follow_in g r.adds.new calls) (eval_under p g.meaning g.pick value e calls) refl r.comes (lets_add_calls p rest u) n
        (λ o c. eval_lets_under p g.meaning g.pick rest ((x, sited (expr_site p value e (length calls)) o) ∷ e) c)
        (λ o c k y. lets_came rest u ((x, ty) ∷ vars) more ((x, sited (expr_site p value e (length calls)) o) ∷ e) c a.3 s.1
        (worth_and g x ty vars (expr_site p value e (length calls)) b.site o e b.visit.vars a.2 (record { site = own.site; content = y }) (worth_moved g vars e v b.visit (expr_keeps p value v vars a.1) w))
        k l m)

-- 7. the outcome of a right side
pub outcome_follows : (g : Given) (partial : Bool) (a : Valued) (f : Followed) (ev : Eval) → Comes g a.site a.visit.impure_calls f ev → outcome_of partial ev ≡ result_after (content_of g (finished partial a).site) f
outcome_follows g partial a f ev k = grind (arith, common_steps, result_after, goes_on, content_of, stops)
