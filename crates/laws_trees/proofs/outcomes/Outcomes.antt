-- Taking a rule of a built set gives its right side's outcome.
use Rattle.std.proofs.Common.{◌≡◌, ℕ, zero, suc, ◌<◌, Bool, false, List, [], ◌∷◌, map, length, take, Option, Some, slice_get, is_some, IsSomeAnd, All, Contains, IsTrue, refl, sym, ap, subst, ◌∙◌, inl, inr, arith}
use Rattle.std.proofs.lemmas.List.Elements.{Contains-append_left, Contains-append_cases}
use Rattle.std.proofs.lemmas.Grind.{common_steps}
use Rattle.model.specs.rules.Values.{Value, Values}
use Rattle.model.specs.rules.Meaning.{Content, Meaning, impure_answer}
use Rattle.model.specs.rules.Outcome.{Outcome}
use Rattle.model.specs.rules.Matching.{Vars}
use Rattle.model.specs.rules.RightSide.{right_side}
use Rattle.model.specs.rules.Program.{Program, kind, is_pure, is_multi, is_partial, rules_of, arg_types}
use Rattle.model.specs.rules.CalledTerms.{CallsAlone}
use Rattle.model.specs.rules.Typed.{TypedRule}
use Rattle.model.specs.rules.Picks.{Pick, picks, SitedVars, values_in, matches_under, right_side_under, site_content, HasContent}
use Rattle.model.specs.sites.Sites.{Site, constructor_site, SetRule, SiteSet, constructor_call, SiteTerm, SiteTerms, each_term, unfold_site}
use Rattle.model.specs.visits.Demands.{demands_of, visit_expr, visit_rule}
use Rattle.model.specs.sites.Overlap.{BuiltRule, built_rules}
use Rattle.model.specs.sites.RuleSets.{IsRuleOf}
use Rattle.model.specs.sites.Serves.{fits_constructor}
use Rattle.model.specs.trees.Places.{below, all_below, return_uses}
use Rattle.model.specs.trees.Run.{World, world_of}
use Rattle.model.specs.trees.Collects.{content_at}
use Rattle.model.specs.trees.SetRuns.{IsTakenUnder}
use Rattle.model.specs.claims.SetMeanings.{returning_once, TakenGivesOutcome, TakenUnderPickGivesOutcome}
use Rattle.model.proofs.Elements.{In, in_from_contains, contains_from_in, in_slice, map_in, none_some, some_is}
use Rattle.model.proofs.Members.{nothing_in, in_head, in_alone, get_within, from_flat_map}
use Rattle.laws_trees.specs.WithoutMulti.{without_sites}
use Rattle.laws_trees.proofs.picks.NoIterators.{calls_no_multi}
use Rattle.laws_trees.proofs.picks.OnePick.{bag_as_plain_lem}
use Rattle.laws_trees.proofs.picks.PlainMatching.{matches_as_plain_lem, ends_as_plain_lem}
use Rattle.laws_trees.proofs.runs.Below.{below_within}
use Rattle.laws_trees.proofs.runs.Contents.{unfolded_layer}
use Rattle.laws_trees.proofs.taking.TakenOutcomes.{taken_follows}
use Rattle.laws_trees.proofs.taking.Taking.{ComesAfterValues}
use Rattle.laws_trees.proofs.taking.CallsIn.{CallsOnly, Known, InOrder, order_listed, known_made, below_calls}
use Rattle.laws_trees.proofs.taking.FollowedCalls.{follow, result_after}
use Rattle.laws_trees.specs.MatchLaws.{IsTried}
use Rattle.model.proofs.CalledTerms.{calls_such}
use Rattle.laws_sites.specs.BuiltSets.{OfBuiltSets}
use Rattle.laws_typing.specs.WellTypedPrograms.{IsWellTypedProgram}
use Rattle.laws_typing.proofs.WellTypedPrograms.{pure_iflets}
use Rattle.laws_sites.proofs.built.BuiltGates.{stands_for, one_rule}
use Rattle.laws_sites.proofs.built.BuiltSets.{BuiltSet, RuleOfSet, ServingMeaning}
use Rattle.laws_sites.proofs.built.DistinctSites.{one_number}
use Rattle.laws_sites.proofs.RightSides.{expr_quiet}
use Rattle.laws_sites.proofs.built.WellBuiltSets.{in_from_all}
use Rattle.laws_trees.proofs.Answered.{fits_there}
use Rattle.laws_trees.proofs.BuiltMatches.{built_listed}
use Rattle.laws_trees.proofs.Contents.{Given, values_of, Fits}
use Rattle.laws_trees.proofs.Rules.{before_result}
use Rattle.laws_trees.proofs.Visits.{given, tried}
use Rattle.laws_trees.proofs.taken.Fits.{IsServed, ServedWorld, IsAnsweredSite, IsAnsweredBelow, found_answered, unwraps_maybe}
use Rattle.laws_trees.proofs.taken.ServesRuns.{is_served}
use Rattle.laws_trees.proofs.outcomes.Evals.{IsServedCall, MayBeCalled}
use Rattle.laws_trees.proofs.outcomes.RightSides.{finished_impure, RightFollows, right_follows}

some_fits : (o : Option Content) (f : Content → Bool) → Fits o f → IsSomeAnd o (λ c. IsTrue (f c))
some_fits o f a = subst (λ q. IsSomeAnd q (λ c. IsTrue (f c))) (sym a.there) a.right

-- each impure call that a rule's visit met is answered, where those before it gave values and its arguments have some
abbrev AreServed : Given → TypedRule → Type 0
AreServed g r =
    (t : ℕ) (ss : SiteTerms) (i : ℕ) (vs : Values) → Known (demands_of g.program r).impure (constructor_call t ss (suc i)) → In (demands_of g.program r).made (constructor_call t ss (suc i))
    → All (HasContent g.meaning g.args g.pick) (take i (demands_of g.program r).impure) → values_of g ss ≡ Some vs
    → Fits (impure_answer g.meaning t i) (fits_constructor g.program t (kind g.program t))

module _ (b : BuiltSet) (h : IsWellTypedProgram b.program) (serving : ServingMeaning b.program b.term) (k : Pick) where
  abbrev p : Program
  p = b.program

  abbrev set : SiteSet
  set = b.set

  abbrev m : Meaning
  m = serving.meaning

  abbrev args : List Value
  args = serving.args

  abbrev n : ℕ
  n = length (arg_types p b.term)

  abbrev rs : List TypedRule
  rs = rules_of p b.term

  abbrev w : World
  w = returning_once (world_of p b.term set.sites m args)

  abbrev g : Given
  g = given p m args k

  once_served : IsServed p n rs w
  once_served = grind (arith, common_steps, is_served b h serving k)

  abbrev stage : ServedWorld
  stage = record { program = p; arity = n; rules = rs; world = w; served = once_served }

  -- 1. what stands below what a rule returns for
  module _ (x : RuleOfSet b) (ev : SitedVars) (f : RightFollows g x.typed.rule ev) (answers : AreServed g x.typed.rule) where
    abbrev k' : BuiltRule
    k' = x.typed

    abbrev r : SetRule
    r = x.rule

    abbrev q : IsRuleOf p set.sites k' r
    q = x.is

    abbrev us : List SiteTerm
    us = (demands_of p k'.rule).impure

    abbrev U : ℕ → SiteTerm
    U = unfold_site set.sites

    number_known : (x : ℕ) → Contains (return_uses (Some r)) x → x < length set.sites
    number_known x c =
        elim (Contains-append_cases r.impure (r.result ∷ []) x c) [
          | inl i ↦ in_from_all (λ s. s < length set.sites) r.impure q.impure.0 x (in_from_contains r.impure x i)
          | inr i ↦ subst (λ s. s < length set.sites) (in_alone r.result x i) q.result.0
        ]

    number_calls : (x : ℕ) → Contains (return_uses (Some r)) x → CallsOnly (Known us) (U x)
    number_calls x c =
        elim (Contains-append_cases r.impure (r.result ∷ []) x c) [
          | inl i ↦ (order_listed (demands_of p k'.rule).made [] us f.order (U x) (subst (λ l. In l (U x)) q.impure.1 (map_in U r.impure x (in_from_contains r.impure x i)))).1
          | inr i ↦ subst (λ s. CallsOnly (Known us) (U s)) (in_alone r.result x i) (subst (CallsOnly (Known us)) (sym q.result.1) f.only)
        ]

    -- an impure call of the set comes after calls that gave values
    abbrev IsReached : Site → Type 0
    IsReached s = (t' : ℕ) (ss : List ℕ) (i : ℕ) → s ≡ constructor_site t' ss (suc i) → All (HasContent m args k) (take i us)

    answered_here : (s : Site) (u : ℕ) → slice_get set.sites u ≡ Some s → CallsOnly (Known us) (U u) → IsReached s → IsAnsweredSite stage k s
    answered_here (constructor_site t' ss zero) u at c after = tt
    answered_here (constructor_site t' ss (suc i)) u at c after =
        λ vs v.
        let l = unfolded_layer set.sites b.built.sources u (constructor_site t' ss (suc i)) at in
        let known = (subst (CallsOnly (Known us)) l c).0 in
        some_fits (impure_answer m t' i) (fits_constructor p t' (kind p t')) (answers t' (each_term U ss) i vs known (known_made (demands_of p k'.rule).made us f.order t' (each_term U ss) (suc i) known) (after t' ss i refl) v)
    answered_here _ u at c after = tt

    answered_below : (s : ℕ) → Contains (all_below set.sites (return_uses (Some r))) s → ComesAfterValues w k (map U r.impure) s → IsAnsweredBelow stage k s
    answered_below s c after u i =
        let x = from_flat_map (λ y. below (suc y) set.sites y) (return_uses (Some r)) s c in
        let calls = below_calls set.sites b.built.sources (Known us) (suc s) s (below_calls set.sites b.built.sources (Known us) (suc x.0) x.0 (number_calls x.0 x.1) s x.2) u i in
        let l = number_known x.0 x.1 in
        let j = below_within set.sites b.built.sources (suc x.0) x.0 s x.2 in
        let o = below_within set.sites b.built.sources (suc s) s u i in
        let z = get_within set.sites u (omega (arith, l, j, o)) in (
          z.0,
          z.1,
          answered_here z.0 u z.1 calls (λ t' ss j e. subst (λ l. All (HasContent m args k) (take j l)) q.impure.1 (after u t' ss j i (z.1 ∙ ap Some e))),
        )

    taken_outcome : (o : Outcome) → IsTakenUnder w k r o → o ≡ right_side_under p m k k'.rule ev
    taken_outcome o taken =
        taken_follows w k b.built.sources r o taken refl (λ x y l j s. one_number p b.term set b.built x y l j s)
        (λ s c after wait there. found_answered stage k s (answered_below s c after) wait there)
        (λ s source c after at x s'. unwraps_maybe stage k s source (answered_below s c after) at x s')
        (demands_of p k'.rule).made (λ x c. number_known x (Contains-append_left r.impure (r.result ∷ []) x c))
        (subst (InOrder (demands_of p k'.rule).made []) (sym q.impure.1) f.order)
        (subst (λ l. CallsOnly (Known l) (U r.result)) (sym q.impure.1) (subst (CallsOnly (Known us)) (sym q.result.1) f.only))
        ∙ ap (λ l. result_after (content_at w k r.result) (follow m args k l [])) q.impure.1
        ∙ ap (λ s. result_after (site_content m args k s) (follow m args k us [])) q.result.1
        ∙ sym f.right

  -- 2. a rule whose right side calls what is pure, or answers once and is answered
  rule_taken : (x : RuleOfSet b) → Contains (picks p m args x.typed.rule) k → (ev : SitedVars) → matches_under p m k x.typed.rule args ≡ Some ev
      → CallsAlone (MayBeCalled g (visit_rule p x.typed.rule).visit) x.typed.rule.rhs → AreServed g x.typed.rule → (o : Outcome) → IsTakenUnder w k x.rule o → o ≡ right_side_under p m k x.typed.rule ev
  rule_taken x pick ev matched may answers o taken =
      let r = x.typed.rule in
      let listed = built_listed p b.term x.typed (contains_from_in (built_rules p b.term) x.typed x.listed) in
      let a : IsTried p b.term m args r k = record { typed = serving.typed; served = serving.serves; rule = listed; pick = pick } in
      let tr = tried p b.term m args r k h a in
      taken_outcome x ev (right_follows g r tr.rule.formed (pure_iflets tr.rule) tr.typed h tr.answered may ev matched) answers o taken

-- 3. a rule that makes no impure call, under a pick
no_known : (calls : List SiteTerm) (c : SiteTerm) → calls ≡ [] → Known calls c → ⊥
no_known calls c e h = grind (arith, common_steps)

pub taken_under_picks_lem : OfBuiltSets TakenUnderPickGivesOutcome
taken_under_picks_lem p t set h b m args typed served apart k' r k ev o same quiet pick matched taken =
    let s : BuiltSet = record { program = p; term = t; set = set; built = b } in
    let g = given p m args k in
    let q = one_rule p t set k' r b same in
    let none : (demands_of p k'.rule).impure ≡ [] = sym q.impure.1 ∙ ap (map (unfold_site set.sites)) quiet in
    let still = sym (finished_impure (is_partial p k'.rule.root_term) (visit_expr p k'.rule.rhs (before_result p k'.rule))) ∙ none in
    let pure = (expr_quiet p k'.rule.rhs (before_result p k'.rule) still).0 in
    rule_taken s h (record { meaning = m; args = args; typed = typed; serves = served; apart = apart }) k (stands_for s k' r same) pick ev matched
    (calls_such (λ t. IsTrue (is_pure p t)) (MayBeCalled g (visit_rule p k'.rule).visit) (λ t i. inl i) k'.rule.rhs pure)
    (λ t ss i vs known. absurd (no_known (demands_of p k'.rule).impure (constructor_call t ss (suc i)) none known)) o taken

-- 4. a rule that goes over no call
empty_list : {X : Type 0} (xs : List X) → ((x : X) → Contains xs x → ⊥) → xs ≡ []
empty_list [] h = refl
empty_list (x ∷ xs) h = absurd (h x (in_head x xs))

pub with_its_sites : (o : Option SitedVars) (v : Vars) → without_sites o ≡ Some v → (ev : SitedVars) × (o ≡ Some ev) × (values_in ev ≡ v)
with_its_sites o v h = grind (arith, common_steps, none_some, some_is)

pub taken_lem : OfBuiltSets TakenGivesOutcome
taken_lem p t set h b m args typed served apart k' r v o same none matched taken =
    let s : BuiltSet = record { program = p; term = t; set = set; built = b } in
    let g = given p m args [] in
    let q = one_rule p t set k' r b same in
    let over : (demands_of p k'.rule).iterators ≡ [] = empty_list (demands_of p k'.rule).iterators (λ u c. let a = q.iterators.all_gone_over u c in nothing_in a.0 (subst (λ l. Contains l a.0) none a.1)) in
    let c = calls_no_multi p k'.rule over in
    let pick : Contains (picks p m args k'.rule) [] = subst (λ l. Contains l []) (sym (bag_as_plain_lem p m args k'.rule c).0) (in_head [] []) in
    let sited = with_its_sites (matches_under p m [] k'.rule args) v (matches_as_plain_lem p m [] k'.rule args c ∙ matched) in
    let listed = built_listed p t k' (contains_from_in (built_rules p t) k' (in_slice (built_rules p t) same.place k' same.typed)) in
    let answers : (t' : ℕ) → IsServedCall g (visit_rule p k'.rule).visit t' = λ t' ss i vs made gave held.
    fits_there (impure_answer m t' i) (fits_constructor p t' (kind p t'))
    (served.impures [] k'.rule t' i ss vs listed (ap is_some matched) (contains_from_in (demands_of p k'.rule).made (constructor_call t' ss (suc i)) made)
    gave held) in
    rule_taken s h (record { meaning = m; args = args; typed = typed; serves = served; apart = apart }) [] (stands_for s k' r same) pick sited.0 sited.1
    (calls_such (λ t. is_multi p t ≡ false) (MayBeCalled g (visit_rule p k'.rule).visit) (λ t' i. inr (i, answers t')) k'.rule.rhs c.right)
    (λ t' ss i vs known made gave held. answers t' ss i vs made gave held) o taken
    ∙ ends_as_plain_lem p m [] k'.rule sited.0 c
    ∙ ap (right_side p m k'.rule) sited.2
