-- Built sets: what a set of rules must be to be built of a term's typed rules.
use Rattle.std.specs.Prelude.{◌≡◌, ℕ, ◌<◌, ◌≤◌, List, [], ◌∷◌, length, Some, map, slice_get, All, Contains, IsTrue}
use Rattle.std.specs.List.{flat_map}
use Rattle.model.specs.lists.Names.{IsDistinct}
use Rattle.model.specs.rules.Program.{Program, rules_of}
use Rattle.model.specs.sites.Sites.{Site, Constraint, SetRule, SiteSet, sources_at, SiteTerm, unfold_site}
use Rattle.model.specs.visits.Demands.{demands_of, result_of}
use Rattle.model.specs.trees.Places.{joins_in}
use Rattle.model.specs.sites.Closure.{Closed}
use Rattle.model.specs.sites.Limits.{most_sites, sites_after_rules}
use Rattle.model.specs.sites.Overlap.{BuiltRule, built_rules}

-- the constraints of a rule of a set are these, each at the number of its site, once
pub record AsksFor (sites : List Site) (closed : Closed) (constraints : List (ℕ × Constraint)) : Type 0 where
  pub asked : (s : ℕ) (c : Constraint) → Contains constraints (s, c) → (s < length sites) × Contains closed.constraints (unfold_site sites s, c)
  pub all_asked : (u : SiteTerm) (c : Constraint) → Contains closed.constraints (u, c) → (s : ℕ) × Contains constraints (s, c) × (unfold_site sites s ≡ u)
  pub once : IsDistinct (map (λ d. d.0) constraints)

-- the classes of a rule of a set are these: they join two sites exactly where one of these classes holds both, and
-- each site stands in one class at most
pub record Equates (sites : List Site) (closed : Closed) (classes : List (List ℕ)) : Type 0 where
  pub joined : (a b : ℕ) → IsTrue (joins_in classes a b) → (a < length sites) × (b < length sites)
      × (class : List SiteTerm) × Contains closed.classes class × Contains class (unfold_site sites a) × Contains class (unfold_site sites b)
  pub all_joined : (class : List SiteTerm) (u v : SiteTerm) → Contains closed.classes class → Contains class u → Contains class v
      → (a : ℕ) × (b : ℕ) × IsTrue (joins_in classes a b) × (unfold_site sites a ≡ u) × (unfold_site sites b ≡ v)
  pub once : IsDistinct (flat_map (λ c. c) classes)
  pub many : All (λ c. 2 ≤ length c) classes

-- the calls that a rule goes over are these
pub record GoesOver (sites : List Site) (calls : List SiteTerm) (iterators : List ℕ) : Type 0 where
  pub gone_over : (s : ℕ) → Contains iterators s → (s < length sites) × Contains calls (unfold_site sites s)
  pub all_gone_over : (u : SiteTerm) → Contains calls u → (s : ℕ) × Contains iterators s × (unfold_site sites s ≡ u)
  pub once : IsDistinct iterators

-- a rule of a set is a built rule: its demands are the closed ones, its calls those of the visit, impure ones in order
pub record IsRuleOf (p : Program) (sites : List Site) (b : BuiltRule) (r : SetRule) : Type 0 where
  pub id : r.id ≡ b.rule.id
  pub at : r.at ≡ b.rule.at
  pub prio : r.prio ≡ b.rule.prio
  pub name : r.name ≡ b.rule.name
  pub constraints : AsksFor sites b.demands r.constraints
  pub classes : Equates sites b.demands r.classes
  pub iterators : GoesOver sites (demands_of p b.rule).iterators r.iterators
  pub impure : (All (λ s. s < length sites) r.impure) × (map (unfold_site sites) r.impure ≡ (demands_of p b.rule).impure)
  pub result : (r.result < length sites) × (unfold_site sites r.result ≡ result_of p b.rule)

-- the rules of a set are these, in order
abbrev pub AreRulesOfSet : Program → List Site → List BuiltRule → List SetRule → Type 0
AreRulesOfSet p sites [] [] = Unit {0}
AreRulesOfSet p sites (b ∷ bs) (r ∷ rs) = IsRuleOf p sites b r × AreRulesOfSet p sites bs rs
AreRulesOfSet p sites _ _ = ⊥

-- the sites of a set stand for these, in order
pub record StandFor (sites : List Site) (terms : List SiteTerm) : Type 0 where
  pub exact : (s : ℕ) → s < length sites → slice_get terms s ≡ Some (unfold_site sites s)
  pub count : length sites ≡ length terms

-- a set is built of the rules of a term: its rules are those that are reachable and pass no limit, in rule order, by
-- their closed demands; its sites are those that all rules of the term make, rules left out included, each once, in the
-- order made, sources first, and no more than there may be
pub record IsBuilt (p : Program) (t : ℕ) (set : SiteSet) : Type 0 where
  pub rules : AreRulesOfSet p set.sites (built_rules p t) set.rules
  pub sites : StandFor set.sites (sites_after_rules p [] (rules_of p t))
  pub few : length set.sites ≤ most_sites
  pub sources : (s a : ℕ) → Contains (sources_at set.sites s) a → a < s
