-- The run of a sound tree of a multi term collects the bag of its rules' results.
use Rattle.std.proofs.Common.{◌≡◌, ℕ, suc, ◌<◌, true, List, [], ◌∷◌, ◌++◌, map, flat_map, length, Some, slice_get, Contains, IsTrue, refl, sym, ap, ◌∙◌, subst, arith}
use Rattle.std.specs.Prelude.{IsPermutation}
use Rattle.std.proofs.lemmas.Bool.{cond-true}
use Rattle.std.proofs.lemmas.List.{append-nil}
use Rattle.std.proofs.lemmas.List.Elements.{Contains-append_left, Contains-append_right, All-contains}
use Rattle.std.proofs.lemmas.List.Sorted.{IsPermutation-refl, IsPermutation-trans}
use Rattle.std.proofs.lemmas.Grind.{flat_map-append}
use Rattle.std.proofs.Math.Bool.{and-true}
use Rattle.std.proofs.Math.Nat.{zero-add}
use Rattle.model.specs.rules.Meaning.{Content, contents}
use Rattle.model.specs.rules.Outcome.{Outcome, ran_through}
use Rattle.model.specs.rules.Picks.{Pick, picks_over}
use Rattle.model.specs.sites.Sites.{SetRule, unfold_site}
use Rattle.model.specs.sites.Gates.{gate_demanded}
use Rattle.model.specs.trees.Trees.{Tree, step, return_at, Marked, marks}
use Rattle.model.specs.trees.Places.{is_in, below, all_below, bind_order, return_uses}
use Rattle.model.specs.trees.Run.{World, Env, Trace, returned, ending_at, with_content, or_next, for_each, run_tree, run}
use Rattle.model.specs.trees.Sound.{IsTested, ReturnsEach, IsSound}
use Rattle.model.specs.trees.Collects.{Collects, content_at, demands_hold, as_list, result_in, sites_of_rule, IsPureAt, calls_gone_over, set_bag, IsCollectedRule, IsCollectedSet, ServesSet, SoundTreesCollect}
use Rattle.model.specs.trees.SetRuns.{tested_sites}
use Rattle.model.proofs.Bags.{as_numbers, of_numbers}
use Rattle.model.proofs.Members.{in_head, in_alone, member_from_get, in_flat_map}
use Rattle.model.proofs.Numbers.{none_pass, filters_same}
use Rattle.laws_trees.proofs.runs.Below.{pure_alone}
use Rattle.laws_trees.proofs.runs.BindOrders.{Finds}
use Rattle.laws_trees.proofs.runs.RunPlaces.{IsClear, ClearWorld, ServesUnder, At, Place, IsReady, wider, set_of}
use Rattle.laws_trees.proofs.runs.AvailableSites.{found_at, binds_at}
use Rattle.laws_trees.proofs.runs.PickedPlaces.{ready_here, holds_here}
use Rattle.laws_trees.proofs.runs.Steps.{trace, step_runs}
use Rattle.laws_trees.proofs.runs.Claims.{IsKept, says_of_run}
use Rattle.laws_trees.proofs.runs.AddedResults.{Adds, adds_none, adds_then, adds_as, each_adds}
use Rattle.laws_trees.proofs.runs.ResultsLeft.{is_left, left_of, left, left_nothing, none_left, longer, loop_first}

module _ (w : World) (rules : List SetRule) (built : IsCollectedSet (set_of w rules)) (served : ServesSet (set_of w rules) w) where
  -- 1. what is asked of the set, and of the world under every pick
  rule_of : (r : SetRule) → Contains rules r → IsCollectedRule w.sites r
  rule_of r c = All-contains (IsCollectedRule w.sites) rules r built.rules c

  site_clear : (r : SetRule) → Contains rules r → (s : ℕ) → Contains (sites_of_rule r) s → IsClear w.sites r s
  site_clear r known s c = record {
    pure = λ u k. All-contains (IsPureAt w.sites) (all_below w.sites (sites_of_rule r)) u (rule_of r known).pure (in_flat_map (λ x. below (suc x) w.sites x) (sites_of_rule r) s u c k);
    gates = λ u k. All-contains (λ x. IsTrue (gate_demanded r (slice_get w.sites x))) (all_below w.sites (sites_of_rule r)) u (rule_of r known).gates (in_flat_map (λ x. below (suc x) w.sites x) (sites_of_rule r) s u c k);
  }

  abbrev clear : ClearWorld
  clear = record {
    world = w;
    rules = rules;
    once = built.once;
    sources = built.sources;
    tested = λ r known s c. site_clear r known s (Contains-append_left (tested_sites r ++ r.iterators) (r.result ∷ []) s (Contains-append_left (tested_sites r) r.iterators s c));
    gone_over = λ r known s c. site_clear r known s (Contains-append_left (tested_sites r ++ r.iterators) (r.result ∷ []) s (Contains-append_right (tested_sites r) r.iterators s c));
  }

  result_clear : (r : SetRule) → Contains rules r → IsClear w.sites r r.result
  result_clear r known = site_clear r known r.result (Contains-append_right (tested_sites r ++ r.iterators) (r.result ∷ []) r.result (in_head r.result []))

  finds : (k : Pick) → Finds w k
  finds k s pure n all = served.found k s (pure_alone w.sites s pure) n all

  serves : (k : Pick) → ServesUnder w rules k
  serves k = record { found = finds k; lists = served.lists k; values = served.values k; fields = served.fields k; apart = served.apart k }

  -- 2. a run adds what is left
  abbrev Says : List ℕ → Pick → List ℕ → (Trace → Outcome) → Type 0
  Says looped pick ids go = (done : List Content) → Adds (go (trace done)) done (left clear looped pick ids)

  joined_left : (looped : List ℕ) (pick : Pick) (here later : List ℕ) → left clear looped pick (here ++ later) ≡ left clear looped pick here ++ left clear looped pick later
  joined_left looped pick here later = flat_map-append (λ i. left_of clear looped pick (slice_get rules i)) here later

  adds_next : (looped : List ℕ) (pick : Pick) (here later : List ℕ) (go rest : Trace → Outcome) → Says looped pick here go → Says looped pick later rest → Says looped pick (here ++ later) (λ t. or_next (go t) rest)
  adds_next looped pick here later go rest first next done =
      subst (Adds (or_next (go (trace done)) rest) done) (sym (joined_left looped pick here later))
      (adds_then (go (trace done)) rest done (left clear looped pick here) (left clear looped pick later) (first done) next)

  -- a return of a rule all of whose demands were tested
  return_adds : w.multi ≡ true → (place : Place clear) (i : ℕ) (r : SetRule) → slice_get rules i ≡ Some r → IsTested place.around r → (rest : Tree) (later : List ℕ)
      → (w.multi ≡ true → (env' : Env) → At clear (wider w.sites place.around (return_uses (Some r))) place.pick env' → Says place.around.looped place.pick later (run_tree rest w env'))
      → Says place.around.looped place.pick (i ∷ later) (run_tree (step (bind_order w.sites place.around (return_uses (Some r))) (return_at r.at r.result) rest) w place.env)
  return_adds multi place i r get all rest later next done =
      let known = member_from_get rules i r get in
      let ready = ready_here clear place r known all r.result (result_clear r known) in
      let x = found_at clear place r.result ready in
      let only : return_uses (Some r) ≡ r.result ∷ [] = ap (λ l. l ++ r.result ∷ []) (rule_of r known).no_calls in
      let alone : (s : ℕ) → Contains (return_uses (Some r)) s → r.result ≡ s = λ s c. in_alone r.result s (subst (λ l. Contains l s) only c) in
      let b = binds_at clear place (return_uses (Some r)) (λ s c. subst (IsReady w.sites place.around) (alone s c) ready) in
      let read = b.3 r.result (subst (λ l. Contains l r.result) (sym only) (in_head r.result [])) ∙ x.1 in
      let one_left : left_of clear place.around.looped place.pick (slice_get rules i) ≡ x.0 ∷ [] =
      ap (left_of clear place.around.looped place.pick) get
      ∙ ap (λ l. flat_map (result_in w r) (picks_over w.meaning w.args place.pick (map (unfold_site w.sites) l))) (none_pass (is_left clear place.around.looped r) 0 w.sites (none_left clear place.around r all))
      ∙ append-nil (result_in w r place.pick)
      ∙ cond-true (demands_hold w place.pick r) (as_list (content_at w place.pick r.result)) [] (holds_here clear place r known all)
      ∙ ap as_list x.1 in
      let path =
      step_runs w (bind_order w.sites place.around (return_uses (Some r))) (return_at r.at r.result) rest place.env b.0 done b.1
      ∙ ap (λ o. or_next (with_content o (trace done) (returned w.multi (trace done))) (run_tree rest w b.0)) read
      ∙ ap (λ m. or_next (returned m (trace done) x.0) (run_tree rest w b.0)) multi in
      subst (λ o. Adds o done (left clear place.around.looped place.pick (i ∷ later))) (sym path)
      (adds_then (returned true (trace done) x.0) (run_tree rest w b.0) done (left_of clear place.around.looped place.pick (slice_get rules i)) (left clear place.around.looped place.pick later)
      (x.0 ∷ [], refl, subst (λ l. IsPermutation l (x.0 ∷ [])) (sym one_left) (IsPermutation-refl (x.0 ∷ [])))
      (next multi b.0 b.2))

  adds_kept : w.multi ≡ true → IsKept clear Says
  adds_kept multi = record {
    alike = λ looped pick ids run go same says done. subst (λ o. Adds o done (left clear looped pick ids)) (sym (same done)) (says done);
    nothing = λ looped pick ids never done. subst (Adds (ending_at ran_through (trace done)) done) (sym (left_nothing clear serves looped pick ids never)) (adds_none done);
    first = λ looped pick here later go never says done.
        let alone = joined_left looped pick here later ∙ ap (λ l. left clear looped pick here ++ l) (left_nothing clear serves looped pick later never) ∙ append-nil (left clear looped pick here) in
        subst (Adds (go (trace done)) done) (sym alone) (says done);
    second = λ looped pick here later go never says done.
        let alone = joined_left looped pick here later ∙ ap (λ l. l ++ left clear looped pick later) (left_nothing clear serves looped pick here never) in
        subst (Adds (go (trace done)) done) (sym alone) (says done);
    next = λ looped pick here later go rest higher says then. adds_next looped pick here later go rest says then;
    goes_over = λ place call ids known over go says done.
        adds_as (for_each (contents call.answers) go (trace done)) done (left clear place.around.looped place.pick ids) _ (loop_first clear place call ids known over)
        (each_adds go (λ n. left clear (call.source ∷ place.around.looped) (longer clear place call n) ids) 0 (contents call.answers)
        (λ j c e now. subst (λ n. Adds (go c (trace now)) now (left clear (call.source ∷ place.around.looped) (longer clear place call n) ids)) (sym (zero-add j)) (says j c e now))
        done);
    returns = λ place i r get all rest later higher go. return_adds multi place i r get all rest later go;
  }

  -- 3. the returns are the rules, each once
  whole_bag : (m : Marked) (tree : Tree) → ReturnsEach (set_of w rules) tree m → IsPermutation (set_bag (set_of w rules) w) (left clear [] [] (marks m))
  whole_bag m tree returns =
      subst (λ l. IsPermutation l (left clear [] [] (marks m)))
      (of_numbers (λ i. left_of clear [] [] (slice_get rules i)) (λ r. flat_map (result_in w r) (picks_over w.meaning w.args [] (calls_gone_over (set_of w rules) r))) 0 rules
      (λ j r e.
      ap (λ n. left_of clear [] [] (slice_get rules n)) (zero-add j)
      ∙ ap (left_of clear [] []) e
      ∙ ap (λ l. flat_map (result_in w r) (picks_over w.meaning w.args [] (map (unfold_site w.sites) l))) (filters_same (λ s. is_in s r.iterators) (is_left clear [] r) 0 w.sites (λ t l. and-true (is_in t r.iterators)))))
      (as_numbers (λ i. left_of clear [] [] (slice_get rules i)) 0 rules (marks m) (λ j l u. returns.once j (omega (arith, u)))
      (λ j c. let k = All-contains (λ i. i < length rules) (marks m) j returns.known c in (omega arith, omega (arith, k))))

  pub collected : w.multi ≡ true → (tree : Tree) → IsSound (set_of w rules) w.multi tree → Collects (run tree w) (set_bag (set_of w rules) w)
  collected multi tree sound =
      let a = says_of_run clear (λ s g. serves) Says (adds_kept multi) tree sound (serves []) [] in
      record {
        calls = ap (λ o. o.calls) a.1;
        ending = ap (λ o. o.ending) a.1;
        same = subst (IsPermutation (set_bag (set_of w rules) w)) (sym (ap (λ o. o.results) a.1)) (IsPermutation-trans (set_bag (set_of w rules) w) (left clear [] [] (marks sound.marked)) a.0 (whole_bag sound.marked tree sound.returns) a.2);
      }

pub sound_trees_collect_lem : SoundTreesCollect
sound_trees_collect_lem set tree w built served multi sound =
    subst (λ sites. IsCollectedSet (record { rules = set.rules; sites = sites }) → ServesSet (record { rules = set.rules; sites = sites }) w → IsSound (record { rules = set.rules; sites = sites }) w.multi tree
    → Collects (run tree w) (set_bag (record { rules = set.rules; sites = sites }) w))
    served.sites
    (λ built' served' sound'. collected w set.rules built' served' multi tree sound')
    built served (subst (λ b. IsSound set b tree) (sym multi) sound)
