-- In a multi term whose rules make no impure call and leave no multi call unused, the run of a best tree collects the bag of their
-- results.
use Rattle.std.proofs.Common.{◌≡◌, ◌<◌, ◌≤◌, ◌&&◌, ◌||◌, ℕ, suc, ◌+◌, Bool, true, List, [], ◌∷◌, ◌++◌, length, map, filter, flat_map, Option, Some, None, is_some, slice_get, Contains, All, IsTrue, refl, sym, ap, subst, ◌∙◌, inl, inr, arith}
use Rattle.std.specs.Prelude.{IsPermutation}
use Rattle.std.proofs.lemmas.Bool.{cond-true, cond-false, and_parts, or_cases}
use Rattle.std.proofs.lemmas.Option.{none-some, same_Some}
use Rattle.std.proofs.lemmas.List.Elements.{All-contains, Contains-append_left, Contains-append_right}
use Rattle.std.proofs.lemmas.List.Sorted.{IsPermutation-refl, IsPermutation-trans, IsPermutation-append}
use Rattle.model.specs.lists.Names.{IsDistinct}
use Rattle.model.specs.rules.Values.{Value}
use Rattle.model.specs.rules.Meaning.{Content, Meaning}
use Rattle.model.specs.rules.Program.{Program, rules_of, is_multi, numbers_from}
use Rattle.model.specs.rules.Picks.{Pick, SitedVars, multi_calls, picks_over, picks, matches_under, results_with, results_under, bag}
use Rattle.model.specs.rules.Typed.{TypedRule}
use Rattle.model.specs.sites.Sites.{Constraint, SetRule, SiteSet, SiteTerm, unfold_site}
use Rattle.model.specs.visits.Demands.{demands_of}
use Rattle.model.specs.sites.Gates.{gate_demanded}
use Rattle.model.specs.sites.Overlap.{BuiltRule, built_rules}
use Rattle.model.specs.sites.RuleSets.{IsRuleOf}
use Rattle.model.specs.trees.Trees.{Tree}
use Rattle.model.specs.trees.Places.{is_in, below, all_below}
use Rattle.model.specs.trees.Run.{World, run, world_of}
use Rattle.model.specs.trees.Tests.{match_test, equal_test, loop_test, needs}
use Rattle.model.specs.trees.WellBuilt.{tests_site, IsWellBuiltRule, IsWellBuilt}
use Rattle.model.specs.trees.Collects.{calls_in, content_at, demands_hold, as_list, result_in, sites_of_rule, calls_gone_over, set_bag, IsCollectedRule, IsCollectedSet, ServesSet, Collects, HasCollectedResults}
use Rattle.model.specs.trees.SetRuns.{tested_sites}
use Rattle.model.specs.trees.Best.{IsBestTree}
use Rattle.model.specs.claims.Layers.{IsCheckable}
use Rattle.laws_sites.specs.BuiltLaws.{BuiltSetsAreCollected}
use Rattle.model.proofs.Elements.{in_from_contains, contains_from_in}
use Rattle.model.proofs.Bags.{flat_map_same}
use Rattle.model.proofs.DistinctJoined.{distinct_filter, distinct_map}
use Rattle.model.proofs.Members.{in_head, all_members, one_passes, member_found, member_is_in, member_from_get, constraint_in, in_filter, from_filter, in_map, from_map, in_flat_map}
use Rattle.model.proofs.Numbers.{numbers_below, numbers_all, numbers_distinct}
use Rattle.model.proofs.Options.{is_there}
use Rattle.model.proofs.Positions.{distinct_nil}
use Rattle.model.proofs.SitesMade.{once_with}
use Rattle.laws_typing.specs.WellTypedPrograms.{IsWellTypedProgram}
use Rattle.laws_sites.proofs.built.BuiltSets.{BuiltSet, ServingMeaning}
use Rattle.laws_trees.specs.Orders.{Within, OrderedFrom}
use Rattle.laws_trees.proofs.picks.Calls.{unfold_once, calls_below, IsEarlier, numbers_ordered}
use Rattle.laws_trees.proofs.picks.FirstCall.{results_are_of_places_lem}
use Rattle.laws_trees.proofs.picks.VisitOrder.{calls_ordered}
use Rattle.laws_trees.proofs.picks.CallOrders.{reordered}
use Rattle.laws_trees.proofs.runs.Below.{below_within}
use Rattle.laws_trees.proofs.runs.Collection.{sound_trees_collect_lem}
use Rattle.laws_trees.proofs.runs.Contents.{sources_in}
use Rattle.laws_trees.specs.MatchLaws.{BuiltSetsMatchByDemands, BuiltSetsHoldResults}
use Rattle.laws_trees.specs.ServeLaws.{ServedMultiSetsServe}
use Rattle.laws_sites.specs.GateLaws.{NoRuleAsksAndGoesOver, MultiTermsHaveOnePriority}
use Rattle.laws_sites.proofs.Classes.{with_sites_in, in_with_sites}
use Rattle.laws_sites.proofs.built.BuiltGates.{one_rule, rule_at}
use Rattle.laws_trees.proofs.BuiltMatches.{built_listed}
use Rattle.laws_sites.proofs.built.WellBuiltSets.{first_constraint}
use Rattle.laws_trees.specs.BuiltLaws.{BestTreesCollectTheBag}
use Rattle.laws_trees.proofs.Soundness.{best_trees_are_sound_lem}
use Rattle.laws_trees.proofs.headline.Places.{Pair, of_set_rule, of_typed_rule, typed_here}

-- 1. lists whose elements, place by place, make one bag each
pub same_bags : {X Y Z : Type 0} (f : X → List Z) (g : Y → List Z) (xs : List X) (ys : List Y) → ((i : ℕ) (x : X) → slice_get xs i ≡ Some x → (y : Y) × (slice_get ys i ≡ Some y) × IsPermutation (f x) (g y))
    → ((i : ℕ) (y : Y) → slice_get ys i ≡ Some y → (x : X) × (slice_get xs i ≡ Some x)) → IsPermutation (flat_map f xs) (flat_map g ys)
same_bags f g [] [] h k = IsPermutation-refl []
same_bags f g [] (y ∷ ys) h k = (let r = k 0 y refl in absurd (none-some r.0 r.1))
same_bags f g (x ∷ xs) [] h k = (let r = h 0 x refl in absurd (none-some r.0 r.1))
same_bags f g (x ∷ xs) (y ∷ ys) h k =
    let r = h 0 x refl in
    IsPermutation-append (f x) (g y) (flat_map f xs) (flat_map g ys) (subst (λ z. IsPermutation (f x) (g z)) (sym (same_Some y r.0 r.1)) r.2)
    (same_bags f g xs ys (λ i z e. h (suc i) z e) (λ i z e. k (suc i) z e))

-- what collecting rests on: laws of built sets
pub record CollectingLaws : Type 0 where
  pub collected : BuiltSetsAreCollected
  pub serve : ServedMultiSetsServe
  pub one_priority : MultiTermsHaveOnePriority
  pub apart : NoRuleAsksAndGoesOver
  pub match : BuiltSetsMatchByDemands
  pub results : BuiltSetsHoldResults

-- a built set whose rules' results are collected: of a well-typed program whose rules can be told apart, and of a multi term
pub record IsCollectedFrom (b : BuiltSet) : Type 0 where
  pub well_typed : IsWellTypedProgram b.program
  pub checkable : IsCheckable b.program
  pub several : is_multi b.program b.term ≡ true
  pub results : All (HasCollectedResults b.program) (rules_of b.program b.term)

module _ (laws : CollectingLaws) (b : BuiltSet) (of : IsCollectedFrom b) (serving : ServingMeaning b.program b.term) where
  abbrev p : Program
  p = b.program

  abbrev t : ℕ
  t = b.term

  abbrev set : SiteSet
  set = b.set

  abbrev m : Meaning
  m = serving.meaning

  abbrev args : List Value
  args = serving.args

  abbrev rs : List TypedRule
  rs = rules_of p t

  abbrev w : World
  w = world_of p t set.sites m args

  -- 2. the set, its world and its best trees
  collected : IsCollectedSet set
  collected =
      laws.collected p t set of.well_typed b.built of.several
      (all_members (λ (k : BuiltRule). HasCollectedResults p k.rule) (built_rules p t) (λ k c. All-contains (HasCollectedResults p) rs k.rule of.results (built_listed p t k c)))

  rule_of : (r : SetRule) → Contains set.rules r → IsCollectedRule set.sites r
  rule_of r c = All-contains (IsCollectedRule set.sites) set.rules r collected.rules c

  serves : ServesSet set w
  serves = laws.serve p t set of.well_typed b.built (all_members (λ (r : SetRule). r.impure ≡ []) set.rules (λ r c. (rule_of r c).no_calls)) m args serving.typed serving.serves serving.apart

  gate_at : (r : SetRule) → Contains set.rules r → (s u : ℕ) → Contains (sites_of_rule r) s → Contains (below (suc s) set.sites s) u → IsTrue (gate_demanded r (slice_get set.sites u))
  gate_at r c s u i k = All-contains (λ x. IsTrue (gate_demanded r (slice_get set.sites x))) (all_below set.sites (sites_of_rule r)) u (rule_of r c).gates (in_flat_map (λ x. below (suc x) set.sites x) (sites_of_rule r) s u i k)

  of_tested : (r : SetRule) (s : ℕ) → Contains (tested_sites r) s → Contains (sites_of_rule r) s
  of_tested r s c = Contains-append_left (tested_sites r ++ r.iterators) (r.result ∷ []) s (Contains-append_left (tested_sites r) r.iterators s c)

  of_calls : (r : SetRule) (s : ℕ) → Contains r.iterators s → Contains (sites_of_rule r) s
  of_calls r s c = Contains-append_left (tested_sites r ++ r.iterators) (r.result ∷ []) s (Contains-append_right (tested_sites r) r.iterators s c)

  tested_site : (r : SetRule) (s : ℕ) → tests_site r s ≡ true → Contains (sites_of_rule r) s
  tested_site r s k =
      elim (or_cases (needs (match_test s) r || needs (equal_test s s) r) (needs (loop_test s) r) k) [
        | inr a ↦ of_calls r s (member_found s r.iterators a)
        | inl a ↦
            elim (or_cases (needs (match_test s) r) (needs (equal_test s s) r) a) [
              | inl x ↦
                  let c = is_there _ x in
                  of_tested r s (Contains-append_left (map (λ (d : ℕ × Constraint). d.0) r.constraints) (flat_map (λ (c : List ℕ). c) r.classes) s
                  (in_map (λ (d : ℕ × Constraint). d.0) r.constraints (s, c.0) (constraint_in r.constraints s c.0 c.1)))
              | inr x ↦
                  let c = one_passes (λ (k : List ℕ). is_in s k && is_in s k) r.classes x in
                  of_tested r s (Contains-append_right (map (λ (d : ℕ × Constraint). d.0) r.constraints) (flat_map (λ (c : List ℕ). c) r.classes) s
                  (in_flat_map (λ (c : List ℕ). c) r.classes c.0 s c.1 (member_found s c.0 (and_parts (is_in s c.0) (is_in s c.0) c.2).0)))
            ]
      ]

  well_built_rule : (r : SetRule) → Contains set.rules r → IsWellBuiltRule set.sites r
  well_built_rule r c =
      let a = rule_at p set.sites (built_rules p t) set.rules b.built.rules r (in_from_contains set.rules r c) in
      record {
        asks_once = λ s d i. first_constraint r.constraints a.2.constraints.once s d (in_from_contains r.constraints (s, d) i);
        asks_or_goes_over = laws.apart p t set of.well_typed b.built r c;
        gates = λ s u k i. gate_at r c s u (tested_site r s k) i;
      }

  well_built : IsWellBuilt set
  well_built = record { sources = b.built.sources; sites_once = collected.once; each = λ i r at. well_built_rule r (member_from_get set.rules i r at) }

  collects_set : (tree : Tree) → IsBestTree set tree → Collects (run tree w) (set_bag set w)
  collects_set tree best =
      sound_trees_collect_lem set tree w collected serves of.several (best_trees_are_sound_lem set true tree well_built (λ q. laws.one_priority p t set of.well_typed b.built of.several) best)

  -- 3. the calls that a rule goes over, in the order of the set
  abbrev term_at : ℕ → SiteTerm
  term_at = unfold_site set.sites

  module _ (i : ℕ) (x : Pair p t set i) where
    abbrev r : SetRule
    r = x.built

    abbrev over : ℕ → Bool
    over s = is_in s r.iterators

    member : Contains set.rules r
    member = member_from_get set.rules i r x.there

    is_rule : IsRuleOf p set.sites x.typed r
    is_rule = one_rule p t set x.typed r b.built x.one

    ordered : OrderedFrom [] (calls_gone_over set r)
    ordered = numbers_ordered term_at over [] 0 set.sites earlier
      where
        earlier : (s : ℕ) → 0 ≤ s → over s ≡ true → (c : SiteTerm) → Contains (calls_in (term_at s)) c → IsEarlier term_at over [] 0 s c
        earlier s l o c k =
            let d = calls_below set.sites b.built.sources s c k in
            let within = below_within set.sites b.built.sources (suc s) s d.0 d.2 in
            let less = b.built.sources d.0 d.1 (subst (λ q. Contains (sources_in q) d.1) (sym d.3) (in_head d.1 [])) in
            let gate : over d.1 ≡ true = sym (ap (gate_demanded r) d.3) ∙ gate_at r member s d.0 (of_calls r s (member_found s r.iterators o)) d.2 in
            inr (d.1, gate, omega arith, omega (arith, within, less), d.4)

    known : (s : ℕ) → Contains (filter over (numbers_from 0 set.sites)) s → s < length set.sites
    known s c = let l = numbers_below 0 set.sites s (from_filter over (numbers_from 0 set.sites) s c).0 in omega (arith, l.1)

    distinct : IsDistinct (calls_gone_over set r)
    distinct =
        distinct_map term_at (filter over (numbers_from 0 set.sites)) (distinct_filter over (numbers_from 0 set.sites) (numbers_distinct 0 set.sites))
        (λ a c j k same. unfold_once set.sites b.built.sources a c collected.once (known a j) (known c k) same)

    of_set : Within (calls_gone_over set r) (multi_calls p x.typed.rule)
    of_set c k =
        let s = from_map term_at (filter over (numbers_from 0 set.sites)) c k in
        let f = from_filter over (numbers_from 0 set.sites) s.0 s.1 in
        let g = is_rule.iterators.gone_over s.0 (member_found s.0 r.iterators f.1) in
        contains_from_in (multi_calls p x.typed.rule) c
        (in_with_sites [] (demands_of p x.typed.rule).iterators c (inr (in_from_contains (demands_of p x.typed.rule).iterators c (subst (Contains (demands_of p x.typed.rule).iterators) s.2 g.1))))

    of_rule : Within (multi_calls p x.typed.rule) (calls_gone_over set r)
    of_rule c k =
        elim (with_sites_in [] (demands_of p x.typed.rule).iterators c (in_from_contains (multi_calls p x.typed.rule) c k)) [
          | inl n ↦ absurd n
          | inr j ↦
              let s = is_rule.iterators.all_gone_over c (contains_from_in (demands_of p x.typed.rule).iterators c j) in
              let l = (is_rule.iterators.gone_over s.0 s.1).0 in
              let zero_plus : 0 + s.0 ≡ s.0 = omega arith in
              let there = subst (Contains (numbers_from 0 set.sites)) zero_plus (numbers_all 0 set.sites s.0 l) in
              subst (Contains (calls_gone_over set r)) s.2 (in_map term_at (filter over (numbers_from 0 set.sites)) s.0 (in_filter over (numbers_from 0 set.sites) s.0 there (member_is_in s.0 r.iterators s.1)))
        ]

    -- 4. the results of a rule
    result_same : (k : Pick) → Contains (picks p m args x.typed.rule) k → results_under p m args x.typed.rule k ≡ result_in w r k
    result_same k c = by (matches_under p m k x.typed.rule args) refl
      where
        matched : is_some (matches_under p m k x.typed.rule args) ≡ demands_hold w k r
        matched = laws.match p t set of.well_typed b.built m args serving.typed serving.serves serving.apart x.typed r k x.one c

        by : (o : Option SitedVars) → matches_under p m k x.typed.rule args ≡ o → results_under p m args x.typed.rule k ≡ result_in w r k
        by None q =
            ap (results_with p m k x.typed.rule) q
            ∙ sym (cond-false (demands_hold w k r) (as_list (content_at w k r.result)) [] (sym matched ∙ ap is_some q))
        by (Some vars) q =
            ap (results_with p m k x.typed.rule) q
            ∙ laws.results p t set of.well_typed b.built m args serving.typed serving.serves serving.apart x.typed r k vars x.one (rule_of r member).no_calls c q
            ∙ sym (cond-true (demands_hold w k r) (as_list (content_at w k r.result)) [] (sym matched ∙ ap is_some q))

    rule_bag : IsPermutation (flat_map (results_under p m args x.typed.rule) (picks p m args x.typed.rule)) (flat_map (result_in w r) (picks_over m args [] (calls_gone_over set r)))
    rule_bag =
        subst (λ l. IsPermutation l (flat_map (result_in w r) (picks_over m args [] (calls_gone_over set r))))
        (sym (flat_map_same (results_under p m args x.typed.rule) (result_in w r) (picks p m args x.typed.rule) result_same))
        (reordered m args (result_in w r) (λ k l g. results_are_of_places_lem.1 w r k l g) (calls_gone_over set r) (multi_calls p x.typed.rule) []
        (calls_ordered p x.typed.rule) ordered (once_with [] (demands_of p x.typed.rule).iterators distinct_nil) distinct of_rule of_set)

  -- 5. those of all rules
  abbrev typed_results : TypedRule → List Content
  typed_results r = flat_map (results_under p m args r) (picks p m args r)

  abbrev built_results : SetRule → List Content
  built_results r = flat_map (result_in w r) (picks_over m args [] (calls_gone_over set r))

  same_bag : IsPermutation (bag p m rs args) (set_bag set w)
  same_bag =
      same_bags typed_results built_results rs set.rules
      (λ i r at.
      let x = of_typed_rule p t set b.built (of.checkable.built t) i r at in
      (x.0.built, x.0.there, subst (λ q. IsPermutation (typed_results q) (built_results x.0.built)) x.1 (rule_bag i x.0)))
      (λ i r at. let x = of_set_rule p t set b.built i r at in (x.0.typed.rule, typed_here p t set b.built (of.checkable.built t) i x.0))

  pub collects : (tree : Tree) → IsBestTree set tree → Collects (run tree w) (bag p m rs args)
  collects tree best =
      let c = collects_set tree best in
      record { calls = c.calls; ending = c.ending; same = IsPermutation-trans (bag p m rs args) (set_bag set w) (run tree w).results same_bag c.same }

pub best_trees_collect_the_bag_lem : CollectingLaws → BestTreesCollectTheBag
best_trees_collect_the_bag_lem laws p t set h b check tree best multi results m args typed served apart =
    collects laws (record { program = p; term = t; set = set; built = b }) (record { well_typed = h; checkable = check; several = multi; results = results })
    (record { meaning = m; args = args; typed = typed; serves = served; apart = apart }) tree best
