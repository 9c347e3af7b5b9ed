-- What the closing keeps of what visits demand, and so what built sets are.
use Rattle.std.specs.Prelude.{[], ◌≡◌, ℕ, true, List, All, Contains}
use Rattle.model.specs.lists.Names.{IsDistinct}
use Rattle.model.specs.rules.Program.{Program, is_multi}
use Rattle.model.specs.rules.Typed.{TypedRule}
use Rattle.model.specs.sites.Sites.{Constraint, SetRule, SiteTerm, SiteSet}
use Rattle.model.specs.visits.Demands.{Demands, demands_of}
use Rattle.model.specs.sites.Closure.{IsUnreachable, closed}
use Rattle.model.specs.trees.WellBuilt.{IsWellBuilt, HasOnePriority}
use Rattle.model.specs.sites.RuleSets.{IsBuilt}
use Rattle.model.specs.claims.SetMeanings.{DemandsItsGates}
use Rattle.model.specs.sites.DemandedGates.{CanBeTested, ClosedCanBeTested, HasNoPartialMulti, GoesOverMultiCalls}
use Rattle.laws_sites.specs.BuiltSets.{OfBuiltSets}

-- no site of a built set stands twice
abbrev pub SitesStandOnce : Type 0
SitesStandOnce = (p : Program) (t : ℕ) (set : SiteSet) → IsBuilt p t set → IsDistinct set.sites

-- the closing of demands that can be met keeps their constraints, and what may be tested
abbrev pub ClosingKeepsGates : Type 0
ClosingKeepsGates =
    (before : List SiteTerm) (d : Demands) → (IsUnreachable d → ⊥) → CanBeTested d
    → ((u : SiteTerm) (c : Constraint) → Contains d.constraints (u, c) → Contains (closed before d).constraints (u, c)) × ClosedCanBeTested d.iterators (closed before d)

-- in a set that is built of a well-typed program, each rule demands the gates at and below the sites that it tests
abbrev pub BuiltRulesDemandGates : Type 0
BuiltRulesDemandGates = OfBuiltSets (λ p t set. All (DemandsItsGates set.sites) set.rules)

-- such a set, none of whose rules goes over calls, is well built
abbrev pub BuiltSetsAreWellBuilt : Type 0
BuiltSetsAreWellBuilt = OfBuiltSets (λ p t set. All (λ r. r.iterators ≡ []) set.rules → IsWellBuilt set)

-- where no term is multi and partial at once, a rule goes over multi calls, and tests none
abbrev pub MultiCallsAreGoneOver : Type 0
MultiCallsAreGoneOver = (p : Program) (r : TypedRule) → HasNoPartialMulti p → GoesOverMultiCalls p (demands_of p r)

-- so no rule goes over a call that its closed demands constrain
abbrev pub NoneAskedAndGoneOver : Type 0
NoneAskedAndGoneOver =
    (p : Program) (r : TypedRule) (before : List SiteTerm) → HasNoPartialMulti p
    → (u : SiteTerm) (c : Constraint) → Contains (closed before (demands_of p r)).constraints (u, c) → Contains (demands_of p r).iterators u → ⊥

-- so no rule of a set that is built of a well-typed program goes over a call that it constrains
abbrev pub NoRuleAsksAndGoesOver : Type 0
NoRuleAsksAndGoesOver =
    OfBuiltSets (λ p t set. (r : SetRule) → Contains set.rules r → (s : ℕ) (c : Constraint) → Contains r.constraints (s, c) → Contains r.iterators s → ⊥)

-- the rules of a multi term have one priority in such a set
abbrev pub MultiTermsHaveOnePriority : Type 0
MultiTermsHaveOnePriority = OfBuiltSets (λ p t set. is_multi p t ≡ true → HasOnePriority set.rules)
