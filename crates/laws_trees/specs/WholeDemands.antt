-- The demands of what definitions are lowered to.
use Rattle.std.specs.Prelude.{◌≡◌, ◌≢◌, ◌↔◌, ℕ, ◌<◌, Bool, List, length, Some, slice_get, Contains, IsTrue}
use Rattle.model.specs.lists.Syntax.{Definition}
use Rattle.model.specs.lists.Elaborated.{TypedRules}
use Rattle.model.specs.rules.Typed.{TypedRule}
use Rattle.model.specs.rules.Program.{Program, rules_of}
use Rattle.model.specs.sites.Sites.{Site, Constraint, SetRule, SiteSet, SiteTerm, unfold_site}
use Rattle.model.specs.visits.Demands.{demands_of}
use Rattle.model.specs.sites.Closure.{HasConstraint, IsClosedEquality}
use Rattle.model.specs.sites.RuleSets.{IsBuilt}
use Rattle.model.specs.trees.Places.{joins_in}
use Rattle.model.specs.claims.Layers.{own_program, IsAccepted}
use Rattle.model.specs.claims.SetMeanings.{DemandsAreWhole}

-- the closed demands of each built rule of accepted definitions are all that follows from what its visit demands
abbrev pub AcceptedDemandsAreWhole : Type 0
AcceptedDemandsAreWhole = (defs : List Definition) (expand : Bool) (rules : TypedRules) → IsAccepted defs expand rules → (t : ℕ) → DemandsAreWhole (own_program defs rules) t

-- a rule of a set asks a constraint of the site that stands for a tree
pub record AsksAt (sites : List Site) (r : SetRule) (u : SiteTerm) (c : Constraint) : Type 0 where
  pub site : ℕ
  pub stands : unfold_site sites site ≡ u
  pub asked : Contains r.constraints (site, c)

-- it has the sites that stand for two trees in one class
pub record JoinsAt (sites : List Site) (r : SetRule) (u v : SiteTerm) : Type 0 where
  pub first : ℕ
  pub second : ℕ
  pub first_stands : unfold_site sites first ≡ u
  pub second_stands : unfold_site sites second ≡ v
  pub joined : IsTrue (joins_in r.classes first second)

-- a rule of a set asks what follows from the demands of a source rule, and nothing else: a constraint stands at a site exactly
-- where the site must meet it, and two sites are in one class exactly where they must be equal and meet no constraint. Whatever
-- follows is asked of some site
pub record AsksWhatFollows (p : Program) (sites : List Site) (source : TypedRule) (r : SetRule) : Type 0 where
  pub id : r.id ≡ source.id
  pub at : r.at ≡ source.at
  pub constraints : (s : ℕ) (c : Constraint) → Contains r.constraints (s, c) ↔ ((s < length sites) × HasConstraint (demands_of p source) (unfold_site sites s) c)
  pub classes : (a b : ℕ) → ((a ≢ b) × IsTrue (joins_in r.classes a b))
      ↔ ((a < length sites) × (b < length sites) × IsClosedEquality (demands_of p source) (unfold_site sites a) (unfold_site sites b))
  pub all_constraints : (u : SiteTerm) (c : Constraint) → HasConstraint (demands_of p source) u c → AsksAt sites r u c
  pub all_classes : (u v : SiteTerm) → IsClosedEquality (demands_of p source) u v → JoinsAt sites r u v

-- a source rule of a term, at a place among the term's rules, that a rule of a set asks for
pub record HasSource (p : Program) (t : ℕ) (sites : List Site) (place : ℕ) (r : SetRule) : Type 0 where
  pub source : TypedRule
  pub here : slice_get (rules_of p t) place ≡ Some source
  pub asks : AsksWhatFollows p sites source r

-- a rule of a set, at a place among its rules, that asks for a source rule
pub record HasRuleFor (p : Program) (set : SiteSet) (place : ℕ) (source : TypedRule) : Type 0 where
  pub rule : SetRule
  pub here : slice_get set.rules place ≡ Some rule
  pub asks : AsksWhatFollows p set.sites source rule

-- the rules of a set ask, place by place, what follows from the demands of the term's source rules
pub record IsWhole (p : Program) (t : ℕ) (set : SiteSet) : Type 0 where
  pub each_rule : (i : ℕ) (r : SetRule) → slice_get set.rules i ≡ Some r → HasSource p t set.sites i r
  pub each_source : (i : ℕ) (q : TypedRule) → slice_get (rules_of p t) i ≡ Some q → HasRuleFor p set i q

-- those of each set that is built of accepted definitions do
abbrev pub AcceptedSetsAreWhole : Type 0
AcceptedSetsAreWhole =
    (defs : List Definition) (expand : Bool) (rules : TypedRules) → IsAccepted defs expand rules → (t : ℕ) (set : SiteSet) → IsBuilt (own_program defs rules) t set → IsWhole (own_program defs rules) t set
