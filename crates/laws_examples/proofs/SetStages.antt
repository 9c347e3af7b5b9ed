-- Sets are built of the rules of their terms: by computing.
use Rattle.std.proofs.Common.{◌≡◌, ◌∷◌, [], ◌<◌, ◌≤◌, ◌&&◌, ℕ, ℤ, suc, Bool, true, false, List, Option, Some, None, map, length, slice_get, All, IsTrue, refl, ap, not, nat_lt, nat_le, ltb-true, arith}
use Rattle.std.proofs.lemmas.Grind.{common_steps}
use Rattle.std.specs.List.{list_all, flat_map}
use Rattle.std.proofs.lemmas.Bool.{and_parts, leb-true}
use Rattle.std.proofs.lemmas.Option.{none-some, same_Some}
use Rattle.model.proofs.Members.{all_members, each_passes, member_from_get, member_is_in}
use Rattle.model.specs.claims.Layers.{own_program}
use Rattle.model.specs.lists.Elaborated.{TypedRules}
use Rattle.model.specs.lists.Names.{IsDistinct}
use Rattle.model.specs.lists.Syntax.{Definition, Position}
use Rattle.model.specs.rules.Program.{Program, is_multi, numbers_from, rules_of}
use Rattle.model.specs.visits.Demands.{demands_of, result_of}
use Rattle.model.specs.sites.Gates.{gate_demanded}
use Rattle.model.specs.sites.Limits.{most_sites, sites_after_rules}
use Rattle.model.specs.sites.Overlap.{BuiltRule, built_rules}
use Rattle.model.specs.sites.RuleSets.{AreRulesOfSet, IsBuilt, IsRuleOf}
use Rattle.model.specs.sites.Sites.{Constraint, constructor_site, SetRule, Site, SiteSet, SiteTerm, unfold_site}
use Rattle.model.specs.trees.Best.{are_distinct}
use Rattle.model.specs.trees.Collects.{IsCollectedRule, IsCollectedSet, IsPureAt, sites_of_rule}
use Rattle.model.specs.trees.Places.{all_below, is_in}
use Rattle.model.specs.trees.SetRuns.{IsTestedSet}
use Rattle.laws_sites.proofs.built.WellBuiltSets.{built_sets_are_tested_lem}
use Rattle.laws_typing.proofs.WellTypedRules.{read_programs_are_well_typed}
use Rattle.laws_trees.proofs.JudgeExactness.{not_exact}
use Rattle.laws_trees.proofs.JudgedSets.{are_below, asks, calls_pass, can_be_served, equates, goes_over, multi_can_be_served, only_sites, serves, stand, unfolded_demand}
use Rattle.laws_trees.proofs.WellBuilt.{passes_well_built, set_passes}
use Rattle.laws_examples.proofs.TreeStages.{has_no_priorities}
use Rattle.laws_examples.specs.Stages.{IsAcceptedBoth, IsBuiltOf}

distinct_numbers : (ns : List ℕ) → are_distinct ns ≡ true → IsDistinct ns
distinct_numbers (n ∷ ns) h (suc j) (suc k) x e f = ap suc (distinct_numbers ns (and_parts (not (is_in n ns)) (are_distinct ns) h).1 j k x e f)
distinct_numbers ns h j k x e f = grind (arith, common_steps, none-some, and_parts, same_Some, not_exact, member_is_in, member_from_get)

-- what a rule of a set says, its sites read back, and what a built rule says
abbrev pub Row : Type 0
Row = ℕ × Position × ℤ × Option ℕ × List (SiteTerm × Constraint) × List (List SiteTerm) × List SiteTerm × List SiteTerm × SiteTerm

abbrev pub row_in : List Site → SetRule → Row
row_in sites r = (
  r.id,
  r.at,
  r.prio,
  r.name,
  map (unfolded_demand sites) r.constraints,
  map (map (unfold_site sites)) r.classes,
  map (unfold_site sites) r.iterators,
  map (unfold_site sites) r.impure,
  unfold_site sites r.result,
)

abbrev pub built_row : Program → BuiltRule → Row
built_row p b = (
  b.rule.id,
  b.rule.at,
  b.rule.prio,
  b.rule.name,
  b.demands.constraints,
  b.demands.classes,
  (demands_of p b.rule).iterators,
  (demands_of p b.rule).impure,
  result_of p b.rule,
)

-- the sites of a rule are a set's, and stand once: in its constraints, in its classes, in its calls
abbrev pub constraints_stand : ℕ → SetRule → Bool
constraints_stand n r = are_below n (map (λ (d : ℕ × Constraint). d.0) r.constraints) && are_distinct (map (λ (d : ℕ × Constraint). d.0) r.constraints)

abbrev pub classes_stand : ℕ → SetRule → Bool
classes_stand n r = list_all (are_below n) r.classes && (are_distinct (flat_map (λ c. c) r.classes) && list_all (λ c. nat_le 2 (length c)) r.classes)

abbrev pub calls_stand : ℕ → SetRule → Bool
calls_stand n r = are_below n r.iterators && (are_distinct r.iterators && (are_below n r.impure && nat_lt r.result n))

abbrev pub stands_once : ℕ → SetRule → Bool
stands_once n r = constraints_stand n r && (classes_stand n r && calls_stand n r)

-- whether a list is empty
abbrev pub is_none_of : List ℕ → Bool
is_none_of [] = true
is_none_of (x ∷ xs) = false

empty : (xs : List ℕ) → is_none_of xs ≡ true → xs ≡ []
empty xs h = grind (arith, common_steps)

each_many : (cs : List (List ℕ)) → list_all (λ c. nat_le 2 (length c)) cs ≡ true → All (λ c. 2 ≤ length c) cs
each_many cs h = all_members (λ c. 2 ≤ length c) cs (λ c i. leb-true 2 (length c) (each_passes (λ c. nat_le 2 (length c)) cs h c i))

pub rule_stands : (p : Program) (sites : List Site) (b : BuiltRule) (r : SetRule) → row_in sites r ≡ built_row p b → stands_once (length sites) r ≡ true → IsRuleOf p sites b r
rule_stands p sites b r e h =
    let n = length sites in
    let parts = and_parts (constraints_stand n r) (classes_stand n r && calls_stand n r) h in
    let later = and_parts (classes_stand n r) (calls_stand n r) parts.1 in
    let cs = and_parts (are_below n (map (λ (d : ℕ × Constraint). d.0) r.constraints)) (are_distinct (map (λ (d : ℕ × Constraint). d.0) r.constraints)) parts.0 in
    let ks = and_parts (list_all (are_below n) r.classes) (are_distinct (flat_map (λ c. c) r.classes) && list_all (λ c. nat_le 2 (length c)) r.classes) later.0 in
    let ms = and_parts (are_distinct (flat_map (λ c. c) r.classes)) (list_all (λ c. nat_le 2 (length c)) r.classes) ks.1 in
    let its = and_parts (are_below n r.iterators) (are_distinct r.iterators && (are_below n r.impure && nat_lt r.result n)) later.1 in
    let one = and_parts (are_distinct r.iterators) (are_below n r.impure && nat_lt r.result n) its.1 in
    let last = and_parts (are_below n r.impure) (nat_lt r.result n) one.1 in
    record {
      id = ap (λ (x : Row). x.0) e;
      at = ap (λ (x : Row). x.1) e;
      prio = ap (λ (x : Row). x.2) e;
      name = ap (λ (x : Row). x.3) e;
      constraints = asks sites b.demands r.constraints cs.0 (ap (λ (x : Row). x.4) e) (distinct_numbers (map (λ (d : ℕ × Constraint). d.0) r.constraints) cs.1);
      classes = equates sites b.demands r.classes ks.0 (ap (λ (x : Row). x.5) e) (distinct_numbers (flat_map (λ c. c) r.classes) ms.0) (each_many r.classes ms.1);
      iterators = goes_over sites (demands_of p b.rule).iterators r.iterators its.0 (ap (λ (x : Row). x.6) e) (distinct_numbers r.iterators one.0);
      impure = ((all_members (λ s. s < n) r.impure (λ s c. ltb-true s n (each_passes (λ t. nat_lt t n) r.impure last.0 s c))), ap (λ (x : Row). x.7) e);
      result = (ltb-true r.result n last.1, ap (λ (x : Row). x.8) e);
    }

rules_stand : (p : Program) (sites : List Site) (bs : List BuiltRule) (rs : List SetRule) → map (row_in sites) rs ≡ map (built_row p) bs → list_all (stands_once (length sites)) rs ≡ true
    → AreRulesOfSet p sites bs rs
rules_stand p sites (b ∷ bs) (r ∷ rs) e h = grind (arith, common_steps, rules_stand p sites bs rs, rule_stands p sites b r, and_parts, rule_stands)
rules_stand p sites bs rs e h = grind (arith, common_steps)

-- a set stands so, by its rows, its sites, and the tests
pub is_built : (p : Program) (t : ℕ) (set : SiteSet) → map (row_in set.sites) set.rules ≡ map (built_row p) (built_rules p t) → list_all (stands_once (length set.sites)) set.rules ≡ true
    → map (unfold_site set.sites) (numbers_from 0 set.sites) ≡ sites_after_rules p [] (rules_of p t) → nat_le (length set.sites) most_sites ≡ true → set_passes (only_sites set) ≡ true
    → IsBuilt p t set
is_built p t set rows once sites few passes = record {
  rules = rules_stand p set.sites (built_rules p t) set.rules rows once;
  sites = stand set.sites (sites_after_rules p [] (rules_of p t)) sites;
  few = leb-true (length set.sites) most_sites few;
  sources = (passes_well_built (only_sites set) passes).sources;
}

-- a set is built, and can be served: of a term that isn't multi, and of one that is
module _ (defs : List Definition) (rules : TypedRules) (t : ℕ) (set : SiteSet) where
  abbrev p : Program
  p = own_program defs rules

  pub built : map (row_in set.sites) set.rules ≡ map (built_row p) (built_rules p t) → list_all (stands_once (length set.sites)) set.rules ≡ true
      → map (unfold_site set.sites) (numbers_from 0 set.sites) ≡ sites_after_rules p [] (rules_of p t) → nat_le (length set.sites) most_sites ≡ true → set_passes (only_sites set) ≡ true
      → is_multi p t ≡ false → list_all (serves set.sites) set.rules ≡ true → calls_pass p set.sites (built_rules p t) set.rules ≡ true → IsBuiltOf defs rules t set
  built rows once sites few passes m each calls = (is_built p t set rows once sites few passes, can_be_served p t set m passes each calls)

  pub built_multi : map (row_in set.sites) set.rules ≡ map (built_row p) (built_rules p t) → list_all (stands_once (length set.sites)) set.rules ≡ true
      → map (unfold_site set.sites) (numbers_from 0 set.sites) ≡ sites_after_rules p [] (rules_of p t) → nat_le (length set.sites) most_sites ≡ true → set_passes (only_sites set) ≡ true
      → list_all (serves set.sites) set.rules ≡ true → calls_pass p set.sites (built_rules p t) set.rules ≡ true → has_no_priorities set.rules ≡ true → IsBuiltOf defs rules t set
  built_multi rows once sites few passes each calls none = (is_built p t set rows once sites few passes, multi_can_be_served p t set passes each calls none)

-- a set that is built of accepted rules of a term that isn't multi, and goes over no calls, meets what choosing asks
pub tested : (defs : List Definition) (rules : TypedRules) (t : ℕ) (set : SiteSet) → IsAcceptedBoth defs rules → IsBuiltOf defs rules t set → is_multi (own_program defs rules) t ≡ false
    → list_all (λ (r : SetRule). is_none_of r.iterators) set.rules ≡ true → IsTestedSet set
tested defs rules t set a b m none =
    built_sets_are_tested_lem (own_program defs rules) t set (read_programs_are_well_typed a.0.read) b.0 m
    (all_members (λ r. r.iterators ≡ []) set.rules (λ r c. empty r.iterators (each_passes (λ (q : SetRule). is_none_of q.iterators) set.rules none r c)))

-- whether a site is there, and makes no impure call
abbrev is_pure_there : Option Site → Bool
is_pure_there None = false
is_pure_there (Some (constructor_site term sources (suc before))) = false
is_pure_there (Some _) = true

pure_there : (sites : List Site) (s : ℕ) (o : Option Site) → slice_get sites s ≡ o → is_pure_there o ≡ true → IsPureAt sites s
pure_there sites s o e h = grind (arith, common_steps)

-- what must hold of a rule whose results a run collects
abbrev pub is_collected : List Site → SetRule → Bool
is_collected sites r =
    is_none_of r.impure && (are_below (length sites) (sites_of_rule r)
    && (list_all (λ s. is_pure_there (slice_get sites s)) (all_below sites (sites_of_rule r)) && list_all (λ s. gate_demanded r (slice_get sites s)) (all_below sites (sites_of_rule r))))

pub collected_rule : (sites : List Site) (r : SetRule) → is_collected sites r ≡ true → IsCollectedRule sites r
collected_rule sites r h =
    let below = all_below sites (sites_of_rule r) in
    let pure = list_all (λ s. is_pure_there (slice_get sites s)) below in
    let gates = list_all (λ s. gate_demanded r (slice_get sites s)) below in
    let a = and_parts (is_none_of r.impure) (are_below (length sites) (sites_of_rule r) && (pure && gates)) h in
    let b = and_parts (are_below (length sites) (sites_of_rule r)) (pure && gates) a.1 in
    let c = and_parts pure gates b.1 in
    record {
      known = grind (arith, common_steps, all_members, each_passes);
      no_calls = empty r.impure a.0;
      pure = all_members (IsPureAt sites) below (λ s i. pure_there sites s (slice_get sites s) refl (each_passes (λ s. is_pure_there (slice_get sites s)) below c.0 s i));
      gates = all_members (λ s. IsTrue (gate_demanded r (slice_get sites s))) below (each_passes (λ s. gate_demanded r (slice_get sites s)) below c.1);
    }

-- a set of such rules, whose sites stand once, after their sources
pub collected : (set : SiteSet) → set_passes (only_sites set) ≡ true → list_all (is_collected set.sites) set.rules ≡ true → IsCollectedSet set
collected set h each = record {
  once = (passes_well_built (only_sites set) h).sites_once;
  sources = (passes_well_built (only_sites set) h).sources;
  rules = all_members (IsCollectedRule set.sites) set.rules (λ r c. collected_rule set.sites r (each_passes (is_collected set.sites) set.rules each r c));
}
