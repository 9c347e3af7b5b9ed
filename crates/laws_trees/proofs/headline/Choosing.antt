-- In a term that isn't multi, the run of a best tree is the choice by priority.
use Rattle.std.proofs.Common.{◌≡◌, ◌<◌, ℕ, false, List, [], Some, is_some, slice_get, Contains, All, IsTrue, ◌≤ℤ◌, sym, ap, subst, ◌∙◌, inl, inr, arith}
use Rattle.std.proofs.lemmas.Bool.{both_ways, false≢true, cases_lt}
use Rattle.model.specs.rules.Values.{Value}
use Rattle.model.specs.rules.Meaning.{Meaning}
use Rattle.model.specs.rules.Outcome.{Outcome, no_rule}
use Rattle.model.specs.rules.Program.{Program, is_multi, rules_of}
use Rattle.model.specs.rules.Matching.{matches}
use Rattle.model.specs.rules.Choice.{with_vars, outcome_of_rule, choice, MatchesOnce}
use Rattle.model.specs.rules.Typed.{TypedRule}
use Rattle.model.specs.sites.Sites.{SetRule, SiteSet}
use Rattle.model.specs.sites.Overlap.{built_rules}
use Rattle.model.specs.trees.Trees.{Tree}
use Rattle.model.specs.trees.Run.{World, run, world_of}
use Rattle.model.specs.trees.Collects.{demands_hold}
use Rattle.model.specs.trees.SetRuns.{IsTaken, ChoosesFrom}
use Rattle.model.specs.trees.Best.{IsBestTree}
use Rattle.model.specs.claims.Headline.{RunsAsChosen}
use Rattle.model.specs.claims.Layers.{IsCheckable}
use Rattle.model.specs.claims.SetMeanings.{TakenGivesOutcome, returning_once}
use Rattle.laws_sites.specs.BuiltLaws.{BuiltSetsAreTested}
use Rattle.laws_sites.specs.BuiltSets.{OfBuiltSets}
use Rattle.model.proofs.Elements.{In, contains_from_in, in_slice, some_is}
use Rattle.model.proofs.Members.{member_from_get, get_from_member}
use Rattle.model.proofs.Options.{is_there}
use Rattle.laws_typing.specs.WellTypedPrograms.{IsWellTypedProgram}
use Rattle.laws_sites.proofs.built.BuiltSets.{BuiltSet, ServingMeaning}
use Rattle.laws_trees.proofs.runs.Choice.{sound_trees_choose_lem}
use Rattle.laws_trees.proofs.runs.ChosenRules.{Chosen, no_match, matching, chosen_is, one_number}
use Rattle.laws_trees.specs.MatchLaws.{BuiltSetsMatchByDemands, BuiltRulesAreToldApart, RulesWithoutMultiGoOverNoCalls}
use Rattle.laws_trees.specs.ServeLaws.{ServedSetsServeTests}
use Rattle.laws_sites.proofs.built.BuiltGates.{one_rule}
use Rattle.laws_trees.proofs.DisjointRules.{empty_pick, same_match}
use Rattle.laws_trees.specs.BuiltLaws.{BestTreesOfBuiltSetsAreSound}
use Rattle.laws_trees.proofs.headline.NoCalls.{rule_goes_over_none, pair_goes_over_none, set_goes_over_none}
use Rattle.laws_trees.proofs.headline.Places.{Pair, of_set_rule, of_typed_rule, typed_here}

-- a world in which a return ends the run
once_world : (w : World) → w.multi ≡ false → w ≡ returning_once w
once_world w e = λ i. record { sites = w.sites; args = w.args; meaning = w.meaning; multi = e i }

-- what the choice rests on: laws of built sets and of sound trees
pub record ChoosingLaws : Type 0 where
  pub tested : BuiltSetsAreTested
  pub serve : ServedSetsServeTests
  pub sound : BestTreesOfBuiltSetsAreSound
  pub match : BuiltSetsMatchByDemands
  pub apart : BuiltRulesAreToldApart
  pub no_calls : RulesWithoutMultiGoOverNoCalls
  pub taken : OfBuiltSets TakenGivesOutcome

-- a built set that is chosen from: of a well-typed program whose rules can be told apart, and of a term that isn't multi
pub record IsChosenFrom (b : BuiltSet) : Type 0 where
  pub well_typed : IsWellTypedProgram b.program
  pub checkable : IsCheckable b.program
  pub single : is_multi b.program b.term ≡ false

module _ (laws : ChoosingLaws) (b : BuiltSet) (of : IsChosenFrom b) (serving : ServingMeaning b.program b.term) where
  abbrev p : Program
  p = b.program

  abbrev t : ℕ
  t = b.term

  abbrev set : SiteSet
  set = b.set

  abbrev m : Meaning
  m = serving.meaning

  abbrev args : List Value
  args = serving.args

  abbrev rs : List TypedRule
  rs = rules_of p t

  abbrev w : World
  w = world_of p t set.sites m args

  -- 1. no rule goes over calls
  listed : (i : ℕ) (x : Pair p t set i) → Contains (built_rules p t) x.typed
  listed i x = member_from_get (built_rules p t) i x.typed x.here

  none : All (λ r. r.iterators ≡ []) set.rules
  none = set_goes_over_none laws.no_calls b of.well_typed of.single

  -- 2. a rule matches exactly where its demands hold
  abbrev Matches : TypedRule → Type 0
  Matches r = IsTrue (is_some (matches p m r args))

  alike : (i : ℕ) (x : Pair p t set i) → is_some (matches p m x.typed.rule args) ≡ demands_hold w [] x.built
  alike i x =
      let n = rule_goes_over_none laws.no_calls b of.well_typed of.single x.typed (listed i x) in
      sym (same_match p m args x.typed.rule n) ∙ laws.match p t set of.well_typed b.built m args serving.typed serving.serves serving.apart x.typed x.built [] x.one (empty_pick p m args x.typed.rule n)

  prio_same : (i : ℕ) (x : Pair p t set i) → x.built.prio ≡ x.typed.rule.prio
  prio_same i x = (one_rule p t set x.typed x.built b.built x.one).prio

  -- 3. of two rules of one priority one matches at most
  never_both : (i j : ℕ) (x : Pair p t set i) (y : Pair p t set j) → i < j → x.typed.rule.prio ≡ y.typed.rule.prio → Matches x.typed.rule → Matches y.typed.rule → ⊥
  never_both i j x y l same mx my =
      (laws.apart p t of.well_typed).overlap m args serving.typed serving.serves serving.apart x.typed y.typed
      (record { one_of = listed i x; other_of = listed j y; one_result = of.single })
      (λ o. of.checkable.overlaps t i j (record { first = x.typed; second = y.typed; one_result = of.single; here = x.here; there = y.here; before = l; one_priority = same; overlap = o })) mx my

  pub once : MatchesOnce p m rs args
  once i j r q ri qj same mr mq =
      let x = of_typed_rule p t set b.built (of.checkable.built t) i r ri in
      let y = of_typed_rule p t set b.built (of.checkable.built t) j q qj in
      let mx = subst Matches (sym x.1) mr in
      let my = subst Matches (sym y.1) mq in
      let prios : x.0.typed.rule.prio ≡ y.0.typed.rule.prio = ap (λ (k : TypedRule). k.prio) x.1 ∙ same ∙ sym (ap (λ (k : TypedRule). k.prio) y.1) in
      elim (cases_lt i j) [
        | inl l ↦ absurd (never_both i j x.0 y.0 l prios mx my)
        | inr l ↦
            elim (cases_lt j i) [
              | inl k ↦ absurd (never_both j i y.0 x.0 k (sym prios) my mx)
              | inr k ↦ omega (arith, l, k)
            ]
      ]

  -- 4. what the run chooses
  taken_gives : (i : ℕ) (x : Pair p t set i) (o : Outcome) → Matches x.typed.rule → IsTaken w x.built o → o ≡ with_vars p m x.typed.rule (matches p m x.typed.rule args)
  taken_gives i x o mx taken =
      let v = is_there (matches p m x.typed.rule args) mx in
      laws.taken p t set of.well_typed b.built m args serving.typed serving.serves serving.apart x.typed x.built v.0 o x.one (pair_goes_over_none laws.no_calls b of.well_typed of.single i x) v.1 (subst (λ u. IsTaken u x.built o) (once_world w of.single) taken)
      ∙ sym (ap (with_vars p m x.typed.rule) v.1)

  chosen_here : (i : ℕ) (x : Pair p t set i) → Matches x.typed.rule → ((q : TypedRule) → In rs q → Matches q → q.prio ≤ℤ x.typed.rule.prio) → choice p m rs args ≡ with_vars p m x.typed.rule (matches p m x.typed.rule args)
  chosen_here i x mx most = by (chosen_is p m args rs)
    where
      here : slice_get rs i ≡ Some x.typed.rule
      here = typed_here p t set b.built (of.checkable.built t) i x

      by : Chosen p m rs args → choice p m rs args ≡ with_vars p m x.typed.rule (matches p m x.typed.rule args)
      by (no_match q never) = absurd (never x.typed.rule (in_slice rs i x.typed.rule here) mx)
      by (matching s j q at ms top) =
          let same = one_number s.prio x.typed.rule.prio (most s (in_slice rs j s at) ms) (top x.typed.rule (in_slice rs i x.typed.rule here) mx) in
          let place = once j i s x.typed.rule at here same ms mx in
          let rule : s ≡ x.typed.rule = some_is s x.typed.rule (sym at ∙ ap (slice_get rs) place ∙ here) in
          ap (outcome_of_rule p m args) q ∙ ap (λ k. with_vars p m k (matches p m k args)) rule

  none_chosen : ((q : SetRule) → Contains set.rules q → demands_hold w [] q ≡ false) → choice p m rs args ≡ no_rule
  none_chosen never = by (chosen_is p m args rs)
    where
      by : Chosen p m rs args → choice p m rs args ≡ no_rule
      by (no_match q n) = ap (outcome_of_rule p m args) q
      by (matching s j q at ms top) =
          let x = of_typed_rule p t set b.built (of.checkable.built t) j s at in
          let member = member_from_get set.rules j x.0.built x.0.there in
          absurd (both_ways (demands_hold w [] x.0.built) (never x.0.built member) (sym (alike j x.0) ∙ subst Matches (sym x.1) ms))

  chosen_from : (o : Outcome) → ChoosesFrom set w o → o ≡ choice p m rs args
  chosen_from o (inr (never, same)) = same ∙ sym (none_chosen never)
  chosen_from o (inl (r, c, holds, most, taken)) =
      let g = get_from_member set.rules r c in
      let x = of_set_rule p t set b.built g.0 r g.1 in
      let mx : Matches x.0.typed.rule = alike g.0 x.0 ∙ ap (demands_hold w []) x.1 ∙ holds in
      taken_gives g.0 x.0 o mx (subst (λ q. IsTaken w q o) (sym x.1) taken)
      ∙ sym (chosen_here g.0 x.0 mx (λ q i mq.
      let k = get_from_member rs q (contains_from_in rs q i) in
      let y = of_typed_rule p t set b.built (of.checkable.built t) k.0 q k.1 in
      let member = member_from_get set.rules k.0 y.0.built y.0.there in
      let less = most y.0.built member (sym (alike k.0 y.0) ∙ subst Matches (sym y.1) mq) in
      let mine : y.0.built.prio ≡ q.prio = prio_same k.0 y.0 ∙ ap (λ (z : TypedRule). z.prio) y.1 in
      let chosen : r.prio ≡ x.0.typed.rule.prio = ap (λ (z : SetRule). z.prio) (sym x.1) ∙ prio_same g.0 x.0 in
      subst (λ z. z ≤ℤ x.0.typed.rule.prio) mine (subst (λ z. y.0.built.prio ≤ℤ z) chosen less)))

  pub runs_as_chosen : (tree : Tree) → IsBestTree set tree → run tree w ≡ choice p m rs args
  runs_as_chosen tree best =
      chosen_from (run tree w)
      (sound_trees_choose_lem set tree w (laws.tested p t set of.well_typed b.built of.single none) (laws.serve p t set of.well_typed b.built m args serving.typed serving.serves serving.apart) of.single
      (laws.sound p t set of.well_typed b.built false tree none (λ q. absurd (false≢true q)) best))

pub best_trees_run_as_chosen_lem : ChoosingLaws → OfBuiltSets (λ p t set. IsCheckable p → (tree : Tree) → IsBestTree set tree → RunsAsChosen p t set.sites tree)
best_trees_run_as_chosen_lem laws p t set h b check tree best without m args typed served apart =
    let s : BuiltSet = record { program = p; term = t; set = set; built = b } in
    let of : IsChosenFrom s = record { well_typed = h; checkable = check; single = without } in
    let serving : ServingMeaning p t = record { meaning = m; args = args; typed = typed; serves = served; apart = apart } in
    (runs_as_chosen laws s of serving tree best, once laws s of serving)
