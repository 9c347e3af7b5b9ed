-- A constructor's call by a builder, step by step.
use Rattle.std.proofs.Common.{◌≡◌, ℕ, suc, ◌<◌, Bool, false, if◌then◌else◌, List, [], ◌∷◌, All, Contains, refl, sym, ap, ◌∙◌, subst, arith}
use Rattle.std.specs.Prelude.{length, map, Result, IfOk, IfErr}
use Rattle.core_types.specs.declared.ids.TypeId.{TypeId}
use Rattle.core_typed.specs.VisitAnswers.{typed_inputs}
use Rattle.core_rule_sets.proofs.SitesAdded.{weaker_ok}
use Rattle.std.proofs.lemmas.List.{append-nil}
use Rattle.std.proofs.lemmas.Grind.{common_steps}
use Rattle.model.specs.lists.Tables.{Flags}
use Rattle.model.specs.sites.Sites.{SiteTerm, SiteTerms, constructor_call, each_term, pick_of, some_part, unfold_site}
use Rattle.model.specs.visits.Demands.{Visit, Valued, valued, call_result, call_sites, calling, iterating, making, visit_call, where_multi, value_made as value_made_of}
use Rattle.core_syntax.specs.declared.visit_fault.VisitFault.{VisitFault}
use Rattle.core_builder.specs.VisitedSites.{EndsBefore, GoesTo, HaveSites, IsNextCall, IsSiteOf, BuilderStandsAt, MakesSite, MakesValue, ValuesTo, GivesValue, built_sites, input_ids, input_terms, value_sites}
use Rattle.core_builder.specs.declared.ruleset_builder.RuleSetBuilder.{RuleSetBuilder}
use Rattle.core_builder.proofs.CallNumbers.{result_number}
use Rattle.core_builder.proofs.BuilderFields.{making_twice, goes_further, site_stays, ends_later}

pub below_all : (n : ℕ) (xs : List ℕ) → All (λ x. x < n) xs → (a : ℕ) → Contains xs a → a < n
below_all n xs w a c = subst (λ x. x < n) c.2 (w c.0 a c.1)

sites_by : (p m : Bool) (call : SiteTerm) → call ∷ (if p then some_part call ∷ [] else (if m then pick_of call ∷ [] else []))
    ≡ (if p then call ∷ (some_part call ∷ []) else (if m then call ∷ (pick_of call ∷ []) else call ∷ []))
sites_by p m call = grind (arith, common_steps)

module _ (flags : Flags) (call : SiteTerm) (v : Visit) where
  -- the visit once what the call gives is made, and once a multi call is gone over
  abbrev pub WithValue : Visit
  WithValue = making (value_sites flags call) (making (call ∷ []) v)

  abbrev pub Over : Visit
  Over = where_multi flags call WithValue

  abbrev pub Called : Bool → Visit
  Called pure = if pure then Over else calling (call_result flags call) Over

  value_made : WithValue ≡ making (call_sites flags call) v
  value_made = making_twice (call ∷ []) (value_sites flags call) v ∙ ap (λ us. making us v) (sites_by flags.partial flags.multi call)

-- the call by its number among the rule's calls
called_same : (flags : Flags) (t : ℕ) (args : SiteTerms) (v : Visit) (pure : Bool) (i : ℕ) → flags.pure ≡ pure → i ≡ (if pure then 0 else suc v.impure_calls)
    → valued (call_result flags (constructor_call t args i)) (Called flags (constructor_call t args i) v pure) ≡ visit_call flags t args v
called_same flags t args v pure i is number = grind (arith, common_steps, value_made flags (constructor_call t args 0) v)

over_makes : (m : Bool) (call : SiteTerm) (w : Visit) → (if m then iterating call w else w).demands.made ≡ w.demands.made
over_makes m call w = grind (arith, common_steps)

over_calls : (m : Bool) (call : SiteTerm) (w : Visit) → (if m then iterating call w else w).impure_calls ≡ w.impure_calls
over_calls m call w = grind (arith, common_steps)

called_makes : (pure : Bool) (u : SiteTerm) (w : Visit) → (if pure then w else calling u w).demands.made ≡ w.demands.made
called_makes pure u w = grind (arith, common_steps)

module _ (before : List SiteTerm) (old : RuleSetBuilder) (v : Visit) (flags : Flags) (pure : Bool) (is : flags.pure ≡ pure) (t : ℕ) (args : SiteTerms) (i : ℕ) (h : BuilderStandsAt before old v)
    (own : i ≡ (if pure then 0 else suc (length old.impure.items))) where
  abbrev Call : SiteTerm
  Call = constructor_call t args i

  abbrev Begun : Visit
  Begun = making (Call ∷ []) v

  call_same : valued (call_result flags Call) (Called flags Call v pure) ≡ visit_call flags t args v
  call_same = called_same flags t args v pure i is (own ∙ ap (λ n. if pure then 0 else suc n) h.calls)

  -- an impure call is the next one
  next_call : (b : RuleSetBuilder) (n : ℕ) → IsSiteOf b (call_result flags Call) n → pure ≡ false → IsNextCall b (Over flags Call v) n
  next_call b n site f = grind (arith, common_steps, result_number flags Call, over_calls flags.multi Call (WithValue flags Call v))

  made_by : (Called flags Call v pure).demands.made ≡ (WithValue flags Call v).demands.made
  made_by = called_makes pure (call_result flags Call) (Over flags Call v) ∙ over_makes flags.multi Call (WithValue flags Call v)

  -- it ended on the way
  value_ends : (b : RuleSetBuilder) (e : VisitFault) → EndsBefore before b (WithValue flags Call v) e → EndsBefore before b (visit_call flags t args v).visit e
  value_ends b e k =
      ends_later before b (WithValue flags Call v) (visit_call flags t args v).visit [] e
      (ap (λ (q : Valued). q.visit.demands.made) (sym call_same) ∙ made_by ∙ sym (append-nil (WithValue flags Call v).demands.made)) k

  pub call_ends : (b : RuleSetBuilder) (e : VisitFault) → EndsBefore before b Begun e → EndsBefore before b (visit_call flags t args v).visit e
  call_ends b e k = value_ends b e (ends_later before b Begun (WithValue flags Call v) (value_sites flags Call) e refl k)

  module _ (a : RuleSetBuilder) (s : ℕ) (m : MakesSite before old a v Call s) where
    pub making_ends : (b : RuleSetBuilder) (e : VisitFault)
        → ((w : Visit) → BuilderStandsAt before a w → s < length (built_sites a) → EndsBefore before b (making (value_sites flags (unfold_site (built_sites a) s)) w) e)
        → EndsBefore before b (visit_call flags t args v).visit e
    making_ends b e full = value_ends b e (subst (λ u. EndsBefore before b (making (value_sites flags u) Begun) e) m.site.number (full Begun m.goes.stands m.site.within))

    -- the whole call
    pub call_valued : (b c d : RuleSetBuilder) (n : ℕ) → ((w : Visit) → BuilderStandsAt before a w → s < length (built_sites a) → MakesValue before a b flags (unfold_site (built_sites a) s) w n)
        → ((w : Visit) → BuilderStandsAt before b w → s < length (built_sites b) → GoesTo before b c (where_multi flags (unfold_site (built_sites b) s) w))
        → ((w : Visit) → BuilderStandsAt before c w → n < length (built_sites c) → (pure ≡ false → IsNextCall c w n) → GoesTo before c d (if pure then w else calling (unfold_site (built_sites c) n) w))
        → ValuesTo before old d (visit_call flags t args v) n
    call_valued b c d n make over call =
        let w : MakesValue before a b flags Call Begun n = subst (λ u. MakesValue before a b flags u Begun n) m.site.number (make Begun m.goes.stands m.site.within) in
        let at = site_stays before a b (WithValue flags Call v) Call s w.goes m.site in
        let gone : GoesTo before b c (Over flags Call v) = subst (λ u. GoesTo before b c (where_multi flags u (WithValue flags Call v))) at.number (over (WithValue flags Call v) w.goes.stands at.within) in
        let value = site_stays before b c (Over flags Call v) (call_result flags Call) n gone w.site in
        let called : GoesTo before c d (Called flags Call v pure) =
        subst (λ u. GoesTo before c d (if pure then Over flags Call v else calling u (Over flags Call v))) value.number (call (Over flags Call v) gone.stands value.within (next_call c n value)) in
        let first = goes_further before old a b Begun (WithValue flags Call v) m.goes w.goes in
        let second = goes_further before old b c (WithValue flags Call v) (Over flags Call v) first gone in
        subst (λ q. ValuesTo before old d q n) call_same
        (record {
          goes = goes_further before old c d (Over flags Call v) (Called flags Call v pure) second called;
          site = site_stays before c d (Called flags Call v pure) (call_result flags Call) n called value;
        })

-- values by their numbers
pub ids_typed : (xs : List (ℕ × TypeId)) → map (λ x. x.0) xs ≡ input_ids (typed_inputs xs)
ids_typed [] = refl
ids_typed (x ∷ xs) = ap (λ l. x.0 ∷ l) (ids_typed xs)

-- a value is made of those that are handed over
pub gives_made : (old new : RuleSetBuilder) (r : Result ℕ VisitFault) (whole : SiteTerms → SiteTerm) (ids : List ℕ) (xs : List (ℕ × TypeId)) → ids ≡ map (λ x. x.0) xs → HaveSites old (typed_inputs xs)
    → (((a : ℕ) → Contains ids a → a < length (built_sites old)) → (before : List SiteTerm) (v : Visit) → BuilderStandsAt before old v
    → IfOk r (MakesSite before old new v (whole (each_term (unfold_site (built_sites old)) ids))) × IfErr r (EndsBefore before new (making (whole (each_term (unfold_site (built_sites old)) ids) ∷ []) v)))
    → GivesValue old new r (value_made_of (whole (input_terms old (typed_inputs xs))))
gives_made old new r whole ids xs same known makes = grind (arith, common_steps, ids_typed xs, below_all (length (built_sites old)) ids, weaker_ok)
