-- Building rule by rule: where the sets of a program's terms and the reports stand after some of its rules, what one more
-- rule has to show, and what there is at the end.
use Rattle.std.specs.Prelude.{◌≡◌, ◌≢◌, ◌↔◌, ℕ, ◌<◌, ◌≤◌, true, false, List, [], ◌∷◌, ◌++◌, length, map, Option, Some, None, is_some, All, Contains, IsTrue, ◌&&◌}
use Rattle.std.specs.Bool.{◌==◌}
use Rattle.std.specs.List.{filter, flat_map, list_any}
use Rattle.model.specs.lists.Names.{IsDistinct}
use Rattle.model.specs.rules.Typed.{TypedRule}
use Rattle.model.specs.rules.Program.{Program, rules_of}
use Rattle.model.specs.sites.Sites.{Constraint, Site, SetRule, SiteSet, SiteTerm, sources_at, unfold_site}
use Rattle.model.specs.visits.Demands.{Demands, demands_of, has_site, with_sites}
use Rattle.model.specs.sites.Closure.{Closed, before_closing, closed, closing, constraint_of, in_order, is_unreachable, most_closing_steps, reported}
use Rattle.model.specs.sites.Limits.{RuleLimit, first_limit, most_sites, sites_after_rule, sites_after_rules}
use Rattle.model.specs.sites.Overlap.{RuleReport, limit_passed, not_reached, built_from, built_rule, build_reports, build_reports_after, build_reports_of}
use Rattle.model.specs.sites.RuleSets.{AreRulesOfSet, AsksFor, Equates, IsBuilt, IsRuleOf, StandFor}
use Rattle.model.specs.trees.Places.{constraint_at, joins_in}

-- 1. one term
-- a set without rules and sites
abbrev pub nothing_built : SiteSet
nothing_built = record { rules = []; sites = [] }

-- a set stands after rules of its term: its rules are those of them that are built, in order, and its sites stand for what
-- all of them made, rules left out included
pub record StandsAfter (p : Program) (done : List TypedRule) (set : SiteSet) : Type 0 where
  pub rules : AreRulesOfSet p set.sites (built_from p [] done) set.rules
  pub sites : StandFor set.sites (sites_after_rules p [] done)
  pub few : length set.sites ≤ most_sites
  pub sources : (s a : ℕ) → Contains (sources_at set.sites s) a → a < s

-- sites have grown: those that were there stand for what they did, there is room, and sources have smaller numbers
pub record HaveGrown (before after : List Site) : Type 0 where
  pub kept : (s : ℕ) → s < length before → unfold_site after s ≡ unfold_site before s
  pub longer : length before ≤ length after
  pub few : length after ≤ most_sites
  pub sources : (s a : ℕ) → Contains (sources_at after s) a → a < s

-- a set goes on past a rule of its term, after the sites of the rules before, and this is reported
pub data GoesPast (p : Program) (before : List SiteTerm) (r : TypedRule) (old new : SiteSet) : List RuleReport → Type 0 where
  -- the rule passes no limit and values can meet its demands: it is added last, by its closed demands
  rule_added : (rule : SetRule) → HaveGrown old.sites new.sites → first_limit p before r ≡ None → is_unreachable (demands_of p r) ≡ false
      → StandFor new.sites (closed before (demands_of p r)).made → new.rules ≡ old.rules ++ rule ∷ [] → IsRuleOf p new.sites (built_rule p before r) rule
      → GoesPast p before r old new []
  -- it passes no limit, and none can: the sites that it made stay
  rule_unreachable : HaveGrown old.sites new.sites → first_limit p before r ≡ None → is_unreachable (demands_of p r) ≡ true
      → StandFor new.sites (with_sites before (demands_of p r).made) → new.rules ≡ old.rules
      → GoesPast p before r old new (map (λ why. not_reached why r.at) (reported (with_sites before (demands_of p r).made) (demands_of p r)))
  -- it passes a limit: the sites that it made until then stay
  limit_met : (limit : RuleLimit) → HaveGrown old.sites new.sites → first_limit p before r ≡ Some limit
      → StandFor new.sites (sites_after_rule p before r) → new.rules ≡ old.rules → GoesPast p before r old new (limit_passed limit r.at ∷ [])

-- it starts with nothing, goes past one rule after another, and ends with the built set
abbrev pub SetsStartEmpty : Type 0
SetsStartEmpty = (p : Program) → StandsAfter p [] nothing_built

abbrev pub SetsGoPastRules : Type 0
SetsGoPastRules =
    (p : Program) (done : List TypedRule) (r : TypedRule) (old new : SiteSet) (said : List RuleReport)
    → StandsAfter p done old → GoesPast p (sites_after_rules p [] done) r old new said
    → StandsAfter p (done ++ r ∷ []) new × (said ≡ build_reports_of p (sites_after_rules p [] done) r)

abbrev pub SetsEndBuilt : Type 0
SetsEndBuilt = (p : Program) (t : ℕ) (set : SiteSet) → StandsAfter p (rules_of p t) set ↔ IsBuilt p t set

-- 2. all terms
-- the rules of a term among some
abbrev pub of_one_term : ℕ → List TypedRule → List TypedRule
of_one_term t done = filter (λ r. r.root_term == t) done

-- after some rules of a program, the sets that are looked up for terms: of each term that has one of them, where it stands
-- after those of its own; and what was reported
pub record AreBuiltSoFar (p : Program) (done : List TypedRule) (set_of : ℕ → Option SiteSet) (reports : List RuleReport) : Type 0 where
  pub terms : (t : ℕ) → is_some (set_of t) ≡ list_any (λ r. r.root_term == t) done
  pub each : (t : ℕ) (set : SiteSet) → set_of t ≡ Some set → StandsAfter p (of_one_term t done) set
  pub reported : reports ≡ build_reports_after p [] done

-- the set of a term, or an empty one
abbrev pub or_nothing_built : Option SiteSet → SiteSet
or_nothing_built None = nothing_built
or_nothing_built (Some set) = set

-- one more rule: the set of its term goes past it, and the others stay
pub record BuildsRule (p : Program) (done : List TypedRule) (r : TypedRule) (old new : ℕ → Option SiteSet) (said : List RuleReport) : Type 0 where
  pub set : SiteSet
  pub here : new r.root_term ≡ Some set
  pub others : (t : ℕ) → t ≢ r.root_term → new t ≡ old t
  pub goes : GoesPast p (sites_after_rules p [] (of_one_term r.root_term done)) r (or_nothing_built (old r.root_term)) set said

abbrev pub BuildingStarts : Type 0
BuildingStarts = (p : Program) → AreBuiltSoFar p [] (λ t. None) []

abbrev pub BuildingGoesOn : Type 0
BuildingGoesOn =
    (p : Program) (done : List TypedRule) (r : TypedRule) (old new : ℕ → Option SiteSet) (reports said : List RuleReport)
    → AreBuiltSoFar p done old reports → BuildsRule p done r old new said → AreBuiltSoFar p (done ++ r ∷ []) new (reports ++ said)

-- after all rules, the sets of the terms with rules are built, and the reports are those of the program
abbrev pub AreLookedUp : (ℕ → Option SiteSet) → List (ℕ × SiteSet) → Type 0
AreLookedUp set_of sets = All (λ s. set_of s.0 ≡ Some s.1) sets

abbrev pub BuildingEnds : Type 0
BuildingEnds =
    (p : Program) (set_of : ℕ → Option SiteSet) (sets : List (ℕ × SiteSet)) (reports : List RuleReport)
    → AreBuiltSoFar p p.rules set_of reports → AreLookedUp set_of sets → All (λ s. IsBuilt p s.0 s.1) sets × (reports ≡ build_reports p)

-- 3. what one rule has to show
-- the numbers of a rule's constraints and classes needn't be put in the order of closed demands: the lists of the closing
-- itself ask for the same, where all that its classes hold are made sites
abbrev pub MembersAreMade : Closed → Type 0
MembersAreMade k = (class : List SiteTerm) (u : SiteTerm) → Contains k.classes class → Contains class u → Contains k.made u

abbrev pub OrderAsksTheSame : Type 0
OrderAsksTheSame =
    (sites : List Site) (k : Closed) (classes : List (List ℕ)) → MembersAreMade k → Equates sites k classes → Equates sites (in_order k) classes

-- constraints and classes over numbers are listed as those of demands that are being closed, through what the numbers stand
-- for: the sites are the made ones; each has its constraint, and is listed once; two sites stand in one class exactly where
-- theirs do, and each in one alone
pub record AreListedAs (sites : List Site) (k : Closed) (constraints : List (ℕ × Constraint)) (classes : List (List ℕ)) : Type 0 where
  pub stand : StandFor sites k.made
  pub asked : (s : ℕ) → s < length sites → constraint_at constraints s ≡ constraint_of k.constraints (unfold_site sites s)
  pub asked_within : All (λ c. c.0 < length sites) constraints
  pub asked_once : IsDistinct (map (λ c. c.0) constraints)
  pub asked_made : (u : SiteTerm) (c : Constraint) → Contains k.constraints (u, c) → Contains k.made u
  pub joined : (a b : ℕ) → a < length sites → b < length sites
      → joins_in classes a b ≡ list_any (λ c. has_site c (unfold_site sites a) && has_site c (unfold_site sites b)) k.classes
  pub joined_within : (a b : ℕ) → IsTrue (joins_in classes a b) → (a < length sites) × (b < length sites)
  pub joined_made : MembersAreMade k
  pub joined_once : IsDistinct (flat_map (λ c. c) classes)
  pub many : All (λ c. 2 ≤ length c) classes

-- so what is listed at the end of the closing is what closed demands ask of a rule
abbrev pub ListedDemandsStand : Type 0
ListedDemandsStand =
    (sites : List Site) (before : List SiteTerm) (d : Demands) (constraints : List (ℕ × Constraint)) (classes : List (List ℕ))
    → AreListedAs sites (closing most_closing_steps (before_closing before d)) constraints classes
    → AsksFor sites (closed before d) constraints × Equates sites (closed before d) classes
