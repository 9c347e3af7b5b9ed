-- The builder of a rule set follows the visitor of sites: what it has shown of its steps is what the law of visits asks.
use Rattle.std.proofs.Common.{◌≡◌, ◌<◌, ◌≤◌, ℕ, suc, Bool, true, false, not, List, [], ◌∷◌, length, map, None, refl, sym, subst, arith}
use Rattle.std.specs.Prelude.{Result, Ok, Err, MatchResult, alloc_error}
use Rattle.std.specs.List.{AllZip}
use Rattle.std.proofs.lemmas.List.Elements.{All-head, All-tail}
use Rattle.std.proofs.lemmas.Grind.{common_steps}
use Rattle.core_syntax.specs.declared.syntax.Limit.TheVariants as Limits
use Rattle.core_syntax.specs.declared.visit_fault.VisitFault.{VisitFault}
use Rattle.core_syntax.specs.declared.visit_fault.VisitFault.TheVariants.{Memory}
use Rattle.model.specs.lists.Tables.{Flags}
use Rattle.model.specs.sites.Limits.{first_passed, most_arguments, most_fields, most_outputs}
use Rattle.model.specs.sites.Sites.{Constraint, is_variant, is_struct, is_bool, is_int, is_prim, is_present, SiteTerm, SiteTerms, no_site_term, site_term_and, argument, bool_term, extractor_call, int_term, prim_term, unfold_site}
use Rattle.model.specs.visits.Demands.{Visit, Opened, Valued, asking, asking_all, equating, iterating, making, site_term_eq, taking_argument, unwraps, valued, visit_call, where_multi, fields_opened, value_made}
use Rattle.model.specs.visits.SiteVisitor.{any_parts, extractor_opened}
use Rattle.model.proofs.Either.{either}
use Rattle.model.proofs.Elements.{some_is}
use Rattle.laws_sites.proofs.Continued.{continues_now}
use Rattle.laws_sites.proofs.AskedSites.{equated}
use Rattle.laws_sites.proofs.FollowedPatterns.{any_count}
use Rattle.laws_sites.specs.Followers.{AsksNothingElse, EndsOnTheWay, FollowsExprs, FollowsPatterns, FollowsRules, FollowsSites, Follower, Gives, Goes, GoesOn, NameInputs, GivesParts}
use Rattle.core_typed.specs.VisitorSteps.{expr_steps, no_memory, pattern_steps, rule_steps}
use Rattle.core_builder.specs.contracts.builder_patterns.RuleSetBuilderPatternVisitor.TheImpl as Patterns
use Rattle.core_builder.specs.contracts.builder_exprs.RuleSetBuilderExprVisitor.TheImpl as Exprs
use Rattle.core_builder.specs.contracts.builder_rules.RuleSetBuilderRuleVisitor.TheImpl as Rules
use Rattle.core_builder.specs.declared.ruleset_builder.RuleSetBuilder.{RuleSetBuilder}
use Rattle.core_builder.specs.VisitedSites.{AreSitesOf, EndsBefore, EndsOpening, EndsVisit, GoesTo, HaveSites, IsSiteOf, OpensTo, BuilderStandsAt, ValuesTo, answered, built_sites, input_terms}
use Rattle.core_builder.proofs.BuilderFields.{site_stays}
use Rattle.core_builder.proofs.BuilderSteps.{bound_stands}
use Rattle.core_builder.proofs.EndedSteps.{argument_ends, ends_further, ends_visit, fields_end, outputs_end}

-- 1. how it stands to visits of sites, after these sites of the term's rules before
abbrev pub follower : List SiteTerm → Follower VisitFault RuleSetBuilder ℕ
follower before = record { Stands = BuilderStandsAt before; Names = IsSiteOf; Ends = EndsVisit before }

module _ (before : List SiteTerm) (s t : RuleSetBuilder) where
  goes : (v : Visit) → GoesTo before s t v → Goes (follower before) s t v
  goes v g = record { stands = g.stands; kept = λ u n k. site_stays before s t v u n g k }

  -- back: sites that keep their numbers are no fewer
  pub went : (v : Visit) → Goes (follower before) s t v → GoesTo before s t v
  went v g = record { stands = g.stands; kept = λ n l. (stays n l).number; longer = none_fewer (length (built_sites s)) (λ n l. (stays n l).within) }
    where
      stays : (n : ℕ) → n < length (built_sites s) → IsSiteOf t (unfold_site (built_sites s) n) n
      stays n l = g.kept (unfold_site (built_sites s) n) n (record { within = l; number = refl })

      none_fewer : (m : ℕ) → ((n : ℕ) → n < m → n < length (built_sites t)) → m ≤ length (built_sites t)
      none_fewer m f = grind (arith, common_steps)

  -- 2. what steps show
  -- one that counts nothing
  goes_on : (r : Result (Unit {0}) VisitFault) (v : Visit) → first_passed v.demands.counted ≡ None → MatchResult r (λ x. GoesTo before s t v) (EndsBefore before t v) → GoesOn (follower before) s r t v
  goes_on (Ok x) v few h = goes v h
  goes_on (Err e) v few h = ends_visit before t v v e few (continues_now v) h

  gives : (r : Result ℕ VisitFault) (a : Valued) → first_passed a.visit.demands.counted ≡ None → MatchResult r (ValuesTo before s t a) (EndsBefore before t a.visit) → Gives (follower before) s r t a
  gives (Ok n) a few h = (goes a.visit h.goes, h.site)
  gives (Err e) a few h = ends_visit before t a.visit a.visit e few (continues_now a.visit) h

-- ids of sites, in order
sites_zip : (b : RuleSetBuilder) (us : List SiteTerm) (ns : List ℕ) → AreSitesOf b us ns → AllZip (IsSiteOf b) us ns
sites_zip b (u ∷ us) (n ∷ ns) h =
    let e = h.numbers in
    let first : unfold_site (built_sites b) n ≡ u = cc in
    let rest : map (unfold_site (built_sites b)) ns ≡ us = cc in (
      record { within = All-head (λ m. m < length (built_sites b)) n ns h.within; number = first },
      sites_zip b us ns (record { within = All-tail (λ m. m < length (built_sites b)) n ns h.within; numbers = rest }),
    )
sites_zip b us ns h = grind arith

-- one that opens parts, no more than there may be
opens : (before : List SiteTerm) (s t : RuleSetBuilder) (few : Type 0) (r : Result (List ℕ) VisitFault) (o : Opened)
    → MatchResult r (λ ids. few × OpensTo before s t o ids) (EndsVisit before t o.visit) → GivesParts (follower before) s r t o
opens before s t few (Ok ids) o h = (goes before s t o.visit h.1.goes, sites_zip t o.inputs ids h.1.inputs)
opens before s t few (Err e) o h = h

-- what ends a call ends it so
ended_so : {A : Type 0} (P : A → Type 0) (Q R : VisitFault → Type 0) (r : Result A VisitFault) → ((e : VisitFault) → Q e → R e) → MatchResult r P Q → MatchResult r P R
ended_so P Q R r f h = grind (arith, common_steps)

-- inputs by their numbers
inputs_there : (s : RuleSetBuilder) (before : List SiteTerm) (us : SiteTerms) (inputs : List (ℕ × ℕ)) → NameInputs (follower before) s us inputs → HaveSites s inputs × (input_terms s inputs ≡ us)
inputs_there s before no_site_term [] h = (λ k d l. absurd (omega (arith, l)), refl)
inputs_there s before no_site_term (x ∷ xs) h = absurd h
inputs_there s before (site_term_and u us) [] h = absurd h
inputs_there s before (site_term_and u us) (x ∷ xs) h = grind (arith, common_steps, inputs_there s before us xs h.1)

-- where a call has answered, and nothing is counted yet
abbrev answered_call : Bool → Bool → SiteTerm → Visit → Visit
answered_call multi infallible call v = answered multi infallible call (making (call ∷ []) v)

-- 3. what counts nothing
equating_counts : (a b : SiteTerm) (v : Visit) → first_passed v.demands.counted ≡ None → first_passed (equating a b v).demands.counted ≡ None
equating_counts a b v few = either (λ (w : Visit). first_passed w.demands.counted ≡ None) (site_term_eq a b) v (equated a b v) few few

asking_counts : (ss : List SiteTerm) (v : Visit) → first_passed v.demands.counted ≡ None → first_passed (asking_all ss v).demands.counted ≡ None
asking_counts [] v few = few
asking_counts (s ∷ ss) v few = asking_counts ss (asking s is_present v) few

multi_counts : (flags : Flags) (call : SiteTerm) (v : Visit) → first_passed v.demands.counted ≡ None → first_passed (where_multi flags call v).demands.counted ≡ None
multi_counts flags call v few = either (λ (w : Visit). first_passed w.demands.counted ≡ None) flags.multi (iterating call v) v few few

call_counts : (pure multi partial rec : Bool) (t : ℕ) (us : SiteTerms) (v : Visit) → first_passed v.demands.counted ≡ None
    → first_passed (visit_call (record { pure = pure; multi = multi; partial = partial; rec = rec }) t us v).visit.demands.counted ≡ None
call_counts pure multi partial rec t us v few = grind (arith, common_steps, multi_counts)

-- 4. it follows
module _ (before : List SiteTerm) where
  in_patterns : FollowsPatterns (follower before) (pattern_steps Patterns.ghosts)
  in_patterns = record {
    equal = grind (arith, common_steps, goes_on before, equating_counts);
    bool = λ s w u n ty b r t h site step. asked s w u n (is_bool b ty) r t h site (step site.within before w h);
    int = λ s w u n ty z r t h site step. asked s w u n (is_int z ty) r t h site (step site.within before w h);
    prim = λ s w u n ty name r t h site step. asked s w u n (is_prim name) r t h site (step site.within before w h);
    variant = λ s w u n ty tys variant r t h site step. fields s w u n (is_variant ty variant (length tys)) (length tys) r t h site (step before w h site.within);
    struct = λ s w u n ty tys r t h site step. fields s w u n (is_struct ty (length tys)) (length tys) r t h site (step before w h site.within);
    extractor = λ s w u n ty tys term infallible multi r t h site step.
        let flags : Flags = record { pure = true; multi = multi; partial = not infallible; rec = false } in
        outputs s w u n term (length tys) infallible multi r t h site (step before w flags (any_parts (length tys)) h site.within refl (any_count (length tys)));
  }
    where
      asked : (s : RuleSetBuilder) (w : Visit) (u : SiteTerm) (n : ℕ) (c : Constraint) (r : Result (Unit {0}) VisitFault) (t : RuleSetBuilder) → BuilderStandsAt before s w → IsSiteOf s u n
          → MatchResult r (λ k. GoesTo before s t (asking (unfold_site (built_sites s) n) c w)) (EndsBefore before t (asking (unfold_site (built_sites s) n) c w)) → GoesOn (follower before) s r t (asking u c w)
      asked s w u n c r t h site q = grind (arith, common_steps, goes_on before s t r (asking u c w) h.few)

      fields : (s : RuleSetBuilder) (w : Visit) (u : SiteTerm) (n : ℕ) (c : Constraint) (count : ℕ) (r : Result (List ℕ) VisitFault) (t : RuleSetBuilder) → BuilderStandsAt before s w → IsSiteOf s u n
          → MatchResult r (λ ids. (count ≤ most_fields) × OpensTo before s t (fields_opened c count (unfold_site (built_sites s) n) w) ids)
          (EndsOpening before t (fields_opened c count (unfold_site (built_sites s) n) w).visit Limits.Fields most_fields count w) → GivesParts (follower before) s r t (fields_opened c count u w)
      fields s w u n c count r t h site q =
          opens before s t (count ≤ most_fields) r (fields_opened c count u w)
          (grind (arith, common_steps, ended_so, fields_end before))

      outputs : (s : RuleSetBuilder) (w : Visit) (u : SiteTerm) (n term count : ℕ) (infallible multi : Bool) (r : Result (List ℕ) VisitFault) (t : RuleSetBuilder) → BuilderStandsAt before s w → IsSiteOf s u n
          → MatchResult r (λ ids. (count ≤ most_outputs) × OpensTo before s t (extractor_opened term count infallible multi (unfold_site (built_sites s) n) w) ids)
          (EndsOpening before t (extractor_opened term count infallible multi (unfold_site (built_sites s) n) w).visit Limits.Outputs most_outputs count (answered_call multi infallible (extractor_call term (unfold_site (built_sites s) n)) w))
          → GivesParts (follower before) s r t (extractor_opened term count infallible multi u w)
      outputs s w u n term count infallible multi r t h site q =
          let o = extractor_opened term count infallible multi u w in
          let v = answered_call multi infallible (extractor_call term u) w in
          opens before s t (count ≤ most_outputs) r o
          (ended_so (λ ids. (count ≤ most_outputs) × OpensTo before s t o ids) (EndsOpening before t o.visit Limits.Outputs most_outputs count v) (EndsVisit before t o.visit) r
          (λ e k. outputs_end before t w (record { pure = true; multi = multi; partial = not infallible; rec = false }) multi infallible (extractor_call term u) (any_parts count) count e refl (any_count count) h.few k)
          (grind (arith, common_steps)))

  in_exprs : FollowsExprs (follower before) (expr_steps Exprs.ghosts)
  in_exprs = record {
    bool = λ s w ty b r t h step. gives before s t r (value_made (bool_term b ty) w) h.few (step before w h);
    int = λ s w ty z r t h step. gives before s t r (value_made (int_term z ty) w) h.few (step before w h);
    prim = λ s w ty name r t h step. gives before s t r (value_made (prim_term name) w) h.few (step before w h);
    variant = grind (arith, common_steps, inputs_there, gives before);
    struct = grind (arith, common_steps, inputs_there, gives before);
    constructor = λ s w us inputs ty term pure infallible multi rec r t h named step.
        let i = inputs_there s before us inputs named in
        let flags : Flags = record { pure = pure; multi = multi; partial = not infallible; rec = rec } in
        gives before s t r (visit_call flags term us w) (call_counts pure multi (not infallible) rec term us w h.few)
        (subst (λ xs. MatchResult r (ValuesTo before s t (visit_call flags term xs w)) (EndsBefore before t (visit_call flags term xs w).visit)) i.1 (step flags refl refl refl i.0 before w h));
  }

  in_rules : FollowsRules (follower before) (rule_steps Rules.ghosts)
  in_rules = record {
    arg = λ s w i ty r t h step. taken s w i r t h (step before w h);
    expr_as_pattern = λ s w u n r t h site nothing step. matched s w u n r t h site (step before w h site.within (subst (AsksNothingElse w) (sym site.number) nothing));
    pattern_as_expr = λ s n r t step. step;
    lend_pattern = λ s r t step. step;
    take_pattern = λ s l r t step. step;
    leave_pattern = λ l s t step. step;
    lend_expr = λ s r t step. step;
    take_expr = λ s l ty n r t step. step;
    leave_expr = λ l s t step. step;
  }
    where
      taken : (s : RuleSetBuilder) (w : Visit) (i : ℕ) (r : Result ℕ VisitFault) (t : RuleSetBuilder) → BuilderStandsAt before s w
          → MatchResult r (λ n. (i < most_arguments) × ValuesTo before s t (valued (argument i) (taking_argument i w)) n) (EndsOpening before t (taking_argument i w) Limits.Arguments most_arguments (suc i) w)
          → Gives (follower before) s r t (valued (argument i) (taking_argument i w))
      taken s w i (Ok n) t h q = (goes before s t (taking_argument i w) q.1.goes, q.1.site)
      taken s w i (Err e) t h q = argument_ends before t w i e h.few q

      matched : (s : RuleSetBuilder) (w : Visit) (u : SiteTerm) (n : ℕ) (r : Result ℕ VisitFault) (t : RuleSetBuilder) → BuilderStandsAt before s w → IsSiteOf s u n
          → (let v = asking_all (unwraps (unfold_site (built_sites s) n)) w in MatchResult r (λ m. (m ≡ n) × GoesTo before s t v) (EndsBefore before t v))
          → Gives (follower before) s r t (valued u (asking_all (unwraps u) w))
      matched s w u n (Ok m) t h site q = grind (arith, common_steps, goes before s t, site_stays before s t)
      matched s w u n (Err e) t h site q = grind (arith, common_steps, ends_visit before t, asking_counts (unwraps u) w h.few, continues_now)

  ends : EndsOnTheWay (follower before) no_memory
  ends = record {
    bound = λ s w x u h. bound_stands before s w x u h;
    further = λ t v w e k h. ends_further before v w k t e h;
    refused = λ t v e same. subst (EndsVisit before t v) (some_is (Memory alloc_error) e same) tt;
  }

  pub builder_follows : FollowsSites (follower before) no_memory (rule_steps Rules.ghosts) (pattern_steps Patterns.ghosts) (expr_steps Exprs.ghosts)
  builder_follows = record { in_patterns = in_patterns; in_exprs = in_exprs; in_rules = in_rules; ends = ends }
