-- Built sets are well built, and meet what choosing from them asks.
use Rattle.std.proofs.Common.{◌≡◌, ◌⊎◌, ℕ, suc, ◌==◌, ◌<◌, true, false, ◌&&◌, ◌||◌, List, [], ◌∷◌, ◌++◌, length, map, get_or, Some, slice_get, IsTrue, All, flat_map, refl, sym, ap, subst, inl, inr, arith, eq-eqb, eqb-true}
use Rattle.std.proofs.lemmas.Bool.{cases_Bool, and_from}
use Rattle.std.proofs.lemmas.Option.{slice_get-get_or}
use Rattle.std.proofs.lemmas.Grind.{common_steps}
use Rattle.model.proofs.Members.{constraint_in}
use Rattle.model.specs.lists.Names.{IsDistinct}
use Rattle.model.specs.rules.Program.{Program}
use Rattle.model.specs.sites.Sites.{Constraint, SetRule, SiteSet, unfold_site}
use Rattle.model.specs.visits.Demands.{demands_of}
use Rattle.model.specs.trees.Places.{is_in, joins_in, constraint_at, below, all_below, return_uses}
use Rattle.model.specs.trees.Tests.{match_test, equal_test, loop_test, needs}
use Rattle.model.specs.sites.Gates.{gate_demanded}
use Rattle.model.specs.trees.Collects.{IsPureAt}
use Rattle.model.specs.trees.SetRuns.{tested_sites, IsUnwrap, IsTestedRule}
use Rattle.model.specs.trees.WellBuilt.{tests_site, IsWellBuiltRule}
use Rattle.model.specs.sites.Overlap.{BuiltRule}
use Rattle.model.specs.sites.RuleSets.{IsRuleOf}
use Rattle.model.specs.claims.SetMeanings.{DemandsItsGates}
use Rattle.model.proofs.Elements.{In, in_from_contains, contains_from_in, in_either, in_slice, slice_in, any_in, in_any, in_map, map_in, from_flat_map, or_split}
use Rattle.model.specs.sites.DemandedGates.{GatesDemanded}
use Rattle.laws_sites.specs.GateLaws.{BuiltRulesDemandGates, BuiltSetsAreWellBuilt}
use Rattle.laws_sites.proofs.built.DistinctSites.{sites_stand_once_lem}
use Rattle.laws_sites.proofs.built.BuiltGates.{set_rule, BuiltGates, built_gates, IsGood, below_good}
use Rattle.laws_sites.proofs.built.BuiltSets.{BuiltSet, RuleOfSet}
use Rattle.model.proofs.Options.{is_there}
use Rattle.model.proofs.FewElements.{none_in}
use Rattle.laws_sites.specs.BuiltLaws.{BuiltSetsAreTested}
use Rattle.laws_typing.specs.WellTypedPrograms.{IsWellTypedProgram}

-- 1. lists
pub all_from_in : {X : Type 0} (P : X → Type 0) (xs : List X) → ((x : X) → In xs x → P x) → All P xs
all_from_in P xs f k d l = f (get_or xs k d) (in_slice xs k (get_or xs k d) (slice_get-get_or xs k d l))

pub in_from_all : {X : Type 0} (P : X → Type 0) (xs : List X) → All P xs → (x : X) → In xs x → P x
in_from_all P xs h x i = let c = contains_from_in xs x i in subst P c.2 (h c.0 x c.1)

later_distinct : {X : Type 0} (x : X) (xs : List X) → IsDistinct (x ∷ xs) → IsDistinct xs
later_distinct x xs d j k y e f = let s : suc j ≡ suc k = d (suc j) (suc k) y e f in omega (arith, s)

-- where no site is constrained twice, the first constraint of a site is its constraint
pub first_constraint : (ds : List (ℕ × Constraint)) → IsDistinct (map (λ d. d.0) ds) → (s : ℕ) (c : Constraint) → In ds (s, c) → constraint_at ds s ≡ Some c
first_constraint [] h s c i = absurd i
first_constraint (d ∷ ds) h s c (inl e) = grind (arith, common_steps)
first_constraint (d ∷ ds) h s c (inr i) =
    elim (cases_Bool (d.0 == s)) [
      | inl t ↦
          let k = slice_in (map (λ (x : ℕ × Constraint). x.0) ds) s (map_in (λ (x : ℕ × Constraint). x.0) ds (s, c) i) in
          let z : 0 ≡ suc k.0 = h 0 (suc k.0) s (ap Some (eqb-true d.0 s t)) k.1 in
          absurd (omega (arith, z))
      | inr f ↦ grind (arith, first_constraint ds (later_distinct d.0 (map (λ (x : ℕ × Constraint). x.0) ds) h) s c i, later_distinct)
    ]

-- 2. rules
module _ (s : BuiltSet) (x : RuleOfSet s) (g : BuiltGates s.program x.typed) where
  abbrev p : Program
  p = s.program

  abbrev set : SiteSet
  set = s.set

  abbrev b : BuiltRule
  b = x.typed

  abbrev r : SetRule
  r = x.rule

  abbrev q : IsRuleOf p set.sites b r
  q = x.is

  -- a site that may be tested
  pub record IsTested (n : ℕ) : Type 0 where
    pub known : n < length set.sites
    pub good : GatesDemanded true true b.demands.constraints (demands_of p b.rule).iterators (unfold_site set.sites n)

  pub constrained_tested : (s : ℕ) (c : Constraint) → In r.constraints (s, c) → IsTested s
  constrained_tested s c i =
      let a = q.constraints.asked s c (contains_from_in r.constraints (s, c) i) in record { known = a.0; good = g.tested.asked (unfold_site set.sites s) c a.1 }

  pub joined_tested : (s : ℕ) → joins_in r.classes s s ≡ true → IsTested s
  joined_tested s j =
      let a = q.classes.joined s s j in record { known = a.0; good = g.tested.equal a.2 (unfold_site set.sites s) a.3 a.4 }

  pub tested_good : (a u : ℕ) → IsTested a → In (below (suc a) set.sites a) u → IsGood true true set.sites r u
  tested_good a u k i = below_good s x true true (suc a) a k.known k.good u i

  gate_of : (u : ℕ) → IsGood true true set.sites r u → IsTrue (gate_demanded r (slice_get set.sites u))
  gate_of u k = subst (λ o. IsTrue (gate_demanded r o)) (sym k.there) k.gate

  needed_tested : r.iterators ≡ [] → (s : ℕ) → tests_site r s ≡ true → IsTested s
  needed_tested none s k =
      elim (or_split (needs (match_test s) r || needs (equal_test s s) r) (needs (loop_test s) r) k) [
        | inl a ↦
            elim (or_split (needs (match_test s) r) (needs (equal_test s s) r) a) [
              | inl x ↦ let c = is_there (constraint_at r.constraints s) x in constrained_tested s c.0 (in_from_contains r.constraints (s, c.0) (constraint_in r.constraints s c.0 c.1))
              | inr x ↦ joined_tested s x
            ]
        | inr a ↦ let x = in_any (λ y. y == s) r.iterators a in absurd (none_in r.iterators none x.0 x.1)
      ]

  well_built : r.iterators ≡ [] → IsWellBuiltRule set.sites r
  well_built none = record {
    asks_once = λ s c i. first_constraint r.constraints q.constraints.once s c (in_from_contains r.constraints (s, c) i);
    asks_or_goes_over = λ s c i j. none_in r.iterators none s (in_from_contains r.iterators s j);
    gates = λ s u k i. gate_of u (tested_good s u (needed_tested none s k) (in_from_contains (below (suc s) set.sites s) u i));
  }

  -- the sites that a rule tests
  pub each_tested : (s : ℕ) → In (tested_sites r) s → IsTested s
  each_tested s i =
      elim (in_either (map (λ (d : ℕ × Constraint). d.0) r.constraints) (flat_map (λ (c : List ℕ). c) r.classes) s i) [
        | inl a ↦ let m = in_map (λ (d : ℕ × Constraint). d.0) r.constraints s a in subst IsTested m.2 (constrained_tested m.0.0 m.0.1 m.1)
        | inr a ↦
            let m = from_flat_map (λ (c : List ℕ). c) r.classes s a in
            let here = any_in (λ y. y == s) m.0 s m.2 (eq-eqb s s refl) in
            joined_tested s (any_in (λ c. is_in s c && is_in s c) r.classes m.0 m.1 (and_from (is_in s m.0) (is_in s m.0) here here))
      ]

  below_tested : (u : ℕ) → In (all_below set.sites (tested_sites r)) u → IsGood true true set.sites r u
  below_tested u i =
      let m = from_flat_map (λ s. below (suc s) set.sites s) (tested_sites r) u i in tested_good m.0 u (each_tested m.0 m.1) m.2

  -- what it returns
  record IsReturned (n : ℕ) : Type 0 where
    known : n < length set.sites
    good : GatesDemanded false false b.demands.constraints (demands_of p b.rule).iterators (unfold_site set.sites n)

  each_returned : (s : ℕ) → In (return_uses (Some r)) s → IsReturned s
  each_returned s i =
      elim (in_either r.impure (r.result ∷ []) s i) [
        | inl a ↦ grind (arith, common_steps, in_from_all (λ n. n < length set.sites) r.impure q.impure.0 s a, map_in (unfold_site set.sites) r.impure s a)
        | inr a ↦ grind (arith, common_steps)
      ]

  below_returned : (u : ℕ) → In (all_below set.sites (return_uses (Some r))) u → IsGood false false set.sites r u
  below_returned u i =
      let m = from_flat_map (λ s. below (suc s) set.sites s) (return_uses (Some r)) u i in
      let k = each_returned m.0 m.1 in
      below_good s x false false (suc m.0) m.0 k.known k.good u m.2

  demands_gates : DemandsItsGates set.sites r
  demands_gates = all_from_in (λ s. IsTrue (gate_demanded r (slice_get set.sites s))) (all_below set.sites (tested_sites r)) (λ u i. gate_of u (below_tested u i))

  is_tested : r.iterators ≡ [] → IsTestedRule set.sites r
  is_tested none = record {
    known = all_from_in (λ s. s < length set.sites) (tested_sites r ++ return_uses (Some r))
        (λ s i. elim (in_either (tested_sites r) (return_uses (Some r)) s i) [ inl a ↦ (each_tested s a).known | inr a ↦ (each_returned s a).known ]);
    no_iterators = none;
    pure = all_from_in (IsPureAt set.sites) (all_below set.sites (tested_sites r)) (λ u i. let k = below_tested u i in (k.site, k.there, k.pure_site));
    gates = demands_gates;
    gates_of_result = all_from_in (λ s. IsTrue (gate_demanded r (slice_get set.sites s)) ⊎ IsUnwrap (slice_get set.sites s)) (all_below set.sites (return_uses (Some r)))
        (λ u i. grind (arith, common_steps, below_returned u i));
  }

-- 3. sets
pub each_of_set : (s : BuiltSet) (P : SetRule → Type 0) → ((x : RuleOfSet s) → P x.rule) → All P s.set.rules
each_of_set s P f = all_from_in P s.set.rules (λ r i. f (set_rule s r i))

pub gates_of : (s : BuiltSet) → IsWellTypedProgram s.program → (x : RuleOfSet s) → BuiltGates s.program x.typed
gates_of s h x = built_gates s.program s.term x.typed h x.listed

pub built_sets_are_well_built_lem : BuiltSetsAreWellBuilt
built_sets_are_well_built_lem p t set h b none =
    let s : BuiltSet = record { program = p; term = t; set = set; built = b } in
    record {
      sources = b.sources;
      sites_once = sites_stand_once_lem p t set b;
      each = λ i r k. let j = in_slice set.rules i r k in let x = set_rule s r j in well_built s x (gates_of s h x) (in_from_all (λ (x : SetRule). x.iterators ≡ []) set.rules none r j);
    }

pub built_sets_are_tested_lem : BuiltSetsAreTested
built_sets_are_tested_lem p t set h b single none =
    let s : BuiltSet = record { program = p; term = t; set = set; built = b } in
    record {
      once = sites_stand_once_lem p t set b;
      sources = b.sources;
      rules = all_from_in (IsTestedRule set.sites) set.rules (λ r j. let x = set_rule s r j in is_tested s x (gates_of s h x) (in_from_all (λ (x : SetRule). x.iterators ≡ []) set.rules none r j));
    }

pub built_rules_demand_gates_lem : BuiltRulesDemandGates
built_rules_demand_gates_lem p t set h b =
    let s : BuiltSet = record { program = p; term = t; set = set; built = b } in each_of_set s (DemandsItsGates set.sites) (λ x. demands_gates s x (gates_of s h x))
