-- A best tree of a built set means what the set does: it is sound where the set meets what choosing from it, or collecting of
-- it, asks.
use Rattle.std.proofs.Common.{◌≡◌, ℕ, suc, ◌==◌, true, false, ◌||◌, List, [], ◌∷◌, ◌++◌, map, Option, Some, None, is_some, slice_get, Contains, IsTrue, flat_map, refl, ap, ◌∙◌, inl, inr, arith, eq-eqb, eqb-true}
use Rattle.std.proofs.lemmas.Bool.{cases_Bool, cond-true, cond-false, or_cases, false≢true}
use Rattle.std.proofs.lemmas.List.Elements.{Contains-append_left, Contains-append_right, All-contains}
use Rattle.model.specs.lists.Names.{IsDistinct}
use Rattle.model.specs.sites.Sites.{Constraint, SetRule, SiteSet}
use Rattle.model.specs.sites.Gates.{gate_demanded}
use Rattle.model.specs.sites.Overlap.{built_rules}
use Rattle.model.specs.trees.Places.{constraint_at, below, all_below}
use Rattle.model.specs.trees.Tests.{match_test, equal_test, loop_test, needs}
use Rattle.model.specs.trees.Collects.{sites_of_rule, IsCollectedRule, IsCollectedSet}
use Rattle.model.specs.trees.WellBuilt.{tests_site, IsWellBuiltRule, IsWellBuilt}
use Rattle.model.specs.claims.Environments.{program_of}
use Rattle.model.specs.claims.Layers.{IsBuiltForSome}
use Rattle.model.proofs.Elements.{in_slice}
use Rattle.model.proofs.Members.{in_cases, nothing_in, member_from_get, get_from_member, in_map, in_flat_map, member_found, constraint_in}
use Rattle.laws_trees.proofs.runs.Choice.{sound_trees_choose_lem}
use Rattle.laws_trees.proofs.runs.Collection.{sound_trees_collect_lem}
use Rattle.laws_trees.proofs.runs.HoldsOnce.{rules_hold_once_lem}
use Rattle.laws_sites.proofs.built.BuiltGates.{rule_at}
use Rattle.laws_sites.proofs.built.MultiCalls.{no_rule_asks_and_goes_over_lem}
use Rattle.laws_trees.specs.BuiltLaws.{BestTreesOfBuiltSetsAreSound}
use Rattle.laws_typing.proofs.WellTypedRules.{elaborated_programs_are_well_typed_lem}
use Rattle.laws_trees.specs.TreeMeanings.{BestTreesMeanTheirSets}
use Rattle.laws_trees.proofs.StepCounts.{joined_member}
use Rattle.laws_trees.proofs.NoLoops.{trees_without_calls_have_no_loop_lem}
use Rattle.laws_trees.proofs.Soundness.{best_trees_are_sound_lem}

-- 1. a site that is constrained once has that constraint
pub asked_once : (ds : List (ℕ × Constraint)) → IsDistinct (map (λ d. d.0) ds) → (s : ℕ) (c : Constraint) → Contains ds (s, c) → constraint_at ds s ≡ Some c
asked_once [] h s c k = absurd (nothing_in (s, c) k)
asked_once (d ∷ ds) h s c k =
    elim (in_cases d (s, c) ds k) [
      | inl e ↦
          cond-true (d.0 == s) (Some d.1) (constraint_at ds s) (eq-eqb d.0 s (ap (λ (x : ℕ × Constraint). x.0) e)) ∙ ap (λ (x : ℕ × Constraint). Some x.1) e
      | inr m ↦
          elim (cases_Bool (d.0 == s)) [
            | inl t ↦
                let there = get_from_member (map (λ (x : ℕ × Constraint). x.0) ds) s (in_map (λ (x : ℕ × Constraint). x.0) ds (s, c) m) in
                let z : 0 ≡ suc there.0 = h 0 (suc there.0) s (ap Some (eqb-true d.0 s t)) there.1 in
                absurd (omega (arith, z))
            | inr f ↦ cond-false (d.0 == s) (Some d.1) (constraint_at ds s) f ∙ asked_once ds (λ j l y e g. (let z : suc j ≡ suc l = h (suc j) (suc l) y e g in omega (arith, z))) s c m
          ]
    ]

-- 2. what a rule tests is among its sites
some_asked : (r : SetRule) (s : ℕ) (o : Option Constraint) → constraint_at r.constraints s ≡ o → is_some o ≡ true → Contains (map (λ d. d.0) r.constraints) s
some_asked r s None e h = absurd (false≢true h)
some_asked r s (Some c) e h = in_map (λ (d : ℕ × Constraint). d.0) r.constraints (s, c) (constraint_in r.constraints s c e)

tested_among : (r : SetRule) (s : ℕ) → IsTrue (tests_site r s) → Contains (sites_of_rule r) s
tested_among r s h =
    let asked = map (λ (d : ℕ × Constraint). d.0) r.constraints in
    let classed = flat_map (λ (c : List ℕ). c) r.classes in
    let last : List ℕ = r.result ∷ [] in
    let before = λ (h : Contains (asked ++ classed) s). Contains-append_left ((asked ++ classed) ++ r.iterators) last s (Contains-append_left (asked ++ classed) r.iterators s h) in
    elim (or_cases (needs (match_test s) r || needs (equal_test s s) r) (needs (loop_test s) r) h) [
      | inl a ↦
          elim (or_cases (needs (match_test s) r) (needs (equal_test s s) r) a) [
            | inl m ↦ before (Contains-append_left asked classed s (some_asked r s (constraint_at r.constraints s) refl m))
            | inr q ↦ before (Contains-append_right asked classed s (joined_member r.classes s s q).0)
          ]
      | inr l ↦ Contains-append_left ((asked ++ classed) ++ r.iterators) last s (Contains-append_right (asked ++ classed) r.iterators s (member_found s r.iterators l))
    ]

-- 3. a built set that meets what collecting of it asks is well built
module _ (set : SiteSet) (built : IsBuiltForSome set) where
  well_built_rule : IsCollectedSet set → (i : ℕ) (r : SetRule) → slice_get set.rules i ≡ Some r → IsWellBuiltRule set.sites r
  well_built_rule collected i r e =
      let p = program_of built.types built.defs built.rules.rules in
      let there = member_from_get set.rules i r e in
      let of = rule_at p set.sites (built_rules p built.term) set.rules built.built.rules r (in_slice set.rules i r e) in
      let rule : IsCollectedRule set.sites r = All-contains (IsCollectedRule set.sites) set.rules r collected.rules there in
      record {
        asks_once = asked_once r.constraints of.2.constraints.once;
        asks_or_goes_over = no_rule_asks_and_goes_over_lem p built.term set (elaborated_programs_are_well_typed_lem built.types built.defs built.expand built.rules built.elaborated) built.built r there;
        gates = λ s u h c.
            All-contains (λ x. IsTrue (gate_demanded r (slice_get set.sites x))) (all_below set.sites (sites_of_rule r)) u rule.gates
            (in_flat_map (λ x. below (suc x) set.sites x) (sites_of_rule r) s u (tested_among r s h) c);
      }

  well_built : IsCollectedSet set → IsWellBuilt set
  well_built collected = record { sources = collected.sources; sites_once = collected.once; each = well_built_rule collected }

pub best_trees_mean_their_sets_lem : BestTreesOfBuiltSetsAreSound → BestTreesMeanTheirSets
best_trees_mean_their_sets_lem sound set tree built best = record {
  chooses = λ tested w serves m.
      sound_trees_choose_lem set tree w tested serves m
      (sound (program_of built.types built.defs built.rules.rules) built.term set (elaborated_programs_are_well_typed_lem built.types built.defs built.expand built.rules built.elaborated) built.built false tree
      (λ k d l. (tested.rules k d l).no_iterators) (λ z. absurd (false≢true z)) best);
  once = λ apart w serves m. rules_hold_once_lem set w serves apart;
  collects = λ one collected w serves m.
      sound_trees_collect_lem set tree w collected serves m (best_trees_are_sound_lem set true tree (well_built set built collected) (λ z. one) best);
  straight = λ none. trees_without_calls_have_no_loop_lem set tree none best;
}
