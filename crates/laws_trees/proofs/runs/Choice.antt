-- The run of a sound tree of a set of rules that go over no calls chooses by priority.
use Rattle.std.proofs.Common.{◌≡◌, ℕ, suc, true, false, List, [], Some, slice_get, Contains, IsTrue, refl, sym, subst, inl, inr, arith}
use Rattle.std.proofs.lemmas.Bool.{cases_Bool}
use Rattle.std.proofs.lemmas.Option.{slice_get_within}
use Rattle.std.proofs.lemmas.List.Elements.{All-contains}
use Rattle.std.proofs.lemmas.Grind.{common_steps}
use Rattle.model.specs.rules.Outcome.{Outcome}
use Rattle.model.specs.rules.Picks.{Pick}
use Rattle.model.specs.sites.Sites.{SetRule}
use Rattle.model.specs.sites.Gates.{gate_demanded}
use Rattle.model.specs.trees.Trees.{Tree, step, return_at, Marked, marks}
use Rattle.model.specs.trees.Places.{below, all_below, bind_order, return_uses}
use Rattle.model.specs.trees.Run.{World, Trace, at_start, run_tree, run}
use Rattle.model.specs.trees.Sound.{ReturnsEach, IsSound}
use Rattle.model.specs.trees.Collects.{demands_hold, IsPureAt}
use Rattle.model.specs.trees.SetRuns.{tested_sites, IsTestedRule, IsTestedSet, ServesTests, IsTaken, IsTakenUnder, ChoosesFrom, SoundTreesChoose}
use Rattle.model.proofs.Members.{nothing_in, member_from_get, get_from_member, member_counted, in_flat_map}
use Rattle.laws_trees.proofs.runs.Below.{pure_alone}
use Rattle.laws_trees.proofs.runs.BindOrders.{Finds}
use Rattle.laws_trees.proofs.runs.RunPlaces.{IsClear, ClearWorld, ServesUnder, IsGoneOver, set_of}
use Rattle.laws_trees.proofs.runs.PickedPlaces.{holds_here}
use Rattle.laws_trees.proofs.runs.Finding.{Found, found_left, found_right, next_found, rule_found}
use Rattle.laws_trees.proofs.runs.Returns.{taken_ends, taken_here}
use Rattle.laws_trees.proofs.runs.Claims.{NeverHold, IsKept, says_of_run}

module _ (w : World) (rules : List SetRule) (built : IsTestedSet (set_of w rules)) (served : ServesTests (set_of w rules) w) where
  -- 1. what is asked of the set and the world, under the empty pick
  rule_of : (r : SetRule) → Contains rules r → IsTestedRule w.sites r
  rule_of r c = All-contains (IsTestedRule w.sites) rules r built.rules c

  no_calls : (s : ℕ) → IsGoneOver rules s → ⊥
  no_calls s g = nothing_in s (subst (λ l. Contains l s) (rule_of g.0 g.1).no_iterators g.2)

  tested_clear : (r : SetRule) → Contains rules r → (s : ℕ) → Contains (tested_sites r) s → IsClear w.sites r s
  tested_clear r known s c = record {
    pure = λ u k. All-contains (IsPureAt w.sites) (all_below w.sites (tested_sites r)) u (rule_of r known).pure (in_flat_map (λ x. below (suc x) w.sites x) (tested_sites r) s u c k);
    gates = λ u k. All-contains (λ x. IsTrue (gate_demanded r (slice_get w.sites x))) (all_below w.sites (tested_sites r)) u (rule_of r known).gates (in_flat_map (λ x. below (suc x) w.sites x) (tested_sites r) s u c k);
  }

  abbrev clear : ClearWorld
  clear = record { world = w; rules = rules; once = built.once; sources = built.sources; tested = tested_clear; gone_over = λ r known s k. absurd (no_calls s (r, known, k)) }

  finds : Finds w []
  finds s pure n all = served.found s (pure_alone w.sites s pure) n all

  serves : ServesUnder w rules []
  serves = record { found = finds; lists = λ r s c known k e. absurd (no_calls s (r, known, k)); values = served.values; fields = served.fields; apart = served.apart }

  -- 2. a rule of greatest priority is taken, or none holds
  abbrev Holds : SetRule → Type 0
  Holds r = demands_hold w [] r ≡ true

  abbrev FoundHere : List ℕ → Outcome → Type 0
  FoundHere = Found rules Holds (IsTaken w)

  -- no loop is around, so no call is picked
  abbrev Says : List ℕ → Pick → List ℕ → (Trace → Outcome) → Type 0
  Says looped pick ids go = pick ≡ [] → FoundHere ids (go at_start)

  none_holds : (pick : Pick) (ids : List ℕ) → pick ≡ [] → NeverHold clear pick ids → (j : ℕ) (q : SetRule) → Contains ids j → slice_get rules j ≡ Some q → Holds q → ⊥
  none_holds pick ids p never = subst (λ k. NeverHold clear k ids) p never [] serves

  found_kept : w.multi ≡ false → IsKept clear Says
  found_kept single = record {
    alike = λ looped pick ids run go same says p. subst (FoundHere ids) (sym (same [])) (says p);
    nothing = λ looped pick ids never p. inr (none_holds pick ids p never, refl);
    first = λ looped pick here later go never says p. found_left rules Holds (IsTaken w) here later (go at_start) (says p) (none_holds pick later p never);
    second = λ looped pick here later go never says p. found_right rules Holds (IsTaken w) here later (go at_start) (none_holds pick here p never) (says p);
    next = λ looped pick here later go rest higher says then p. next_found rules Holds (IsTaken w) here later (go at_start) rest (λ i r get. taken_ends w single r (go at_start) rest) (says p) higher (then p);
    goes_over = λ place call ids known over go says. absurd (no_calls call.source call.gone_over);
    returns = λ place i r get all rest later higher go p.
        let member = member_from_get rules i r get in
        let run = run_tree (step (bind_order w.sites place.around (return_uses (Some r))) (return_at r.at r.result) rest) w place.env at_start in
        rule_found rules Holds (IsTaken w) i r later run get (subst (λ k. demands_hold w k r ≡ true) p (holds_here clear place r member all))
        (subst (λ k. IsTakenUnder w k r run) p (taken_here clear no_calls place r (rule_of r member) member all single rest)) higher;
  }

  -- 3. each rule of the set returns once
  placed : (m : Marked) (tree : Tree) → ReturnsEach (set_of w rules) tree m → (q : SetRule) → Contains rules q → (i : ℕ) × Contains (marks m) i × (slice_get rules i ≡ Some q)
  placed m tree returns q c =
      let g = get_from_member rules q c in
      (g.0, member_counted g.0 (marks m) (returns.once g.0 (slice_get_within rules g.0 q g.1)), g.1)

  choice_of : (m : Marked) (tree : Tree) → ReturnsEach (set_of w rules) tree m → FoundHere (marks m) (run tree w) → ChoosesFrom (set_of w rules) w (run tree w)
  choice_of m tree returns (inl (i, r, k, get, holds, most, taken)) =
      inl (r, member_from_get rules i r get, holds, λ q c at. let g = placed m tree returns q c in most g.0 q g.1 g.2 at, taken)
  choice_of m tree returns (inr (none, e)) =
      inr (λ q c. elim (cases_Bool (demands_hold w [] q)) [ inl t ↦ let g = placed m tree returns q c in absurd (none g.0 q g.1 g.2 t) | inr f ↦ f ], e)

  pub chooses : w.multi ≡ false → (tree : Tree) → IsSound (set_of w rules) w.multi tree → ChoosesFrom (set_of w rules) w (run tree w)
  chooses single tree sound =
      choice_of sound.marked tree sound.returns
      (says_of_run clear (λ s g. absurd (no_calls s g)) Says (found_kept single) tree sound serves refl)

pub sound_trees_choose_lem : SoundTreesChoose
sound_trees_choose_lem set tree w built served single sound = grind (arith, common_steps, chooses w set.rules)
