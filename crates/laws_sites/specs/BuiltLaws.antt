-- What theory proves of the closed demands of rules that are built, and so of the rules of built sets.
use Rattle.std.specs.Prelude.{◌≡◌, ℕ, true, false, [], List, All, Contains}
use Rattle.model.specs.rules.Program.{Program, is_multi}
use Rattle.model.specs.rules.Typed.{TypedRule}
use Rattle.model.specs.sites.Sites.{Constraint, SiteTerm, SiteSet}
use Rattle.model.specs.visits.Demands.{demands_of}
use Rattle.model.specs.sites.Closure.{ClosedIsWhole, closed}
use Rattle.model.specs.sites.Overlap.{is_built, built_rules}
use Rattle.model.specs.sites.RuleSets.{IsBuilt}
use Rattle.model.specs.trees.Collects.{HasCollectedResults, IsCollectedSet}
use Rattle.model.specs.trees.SetRuns.{IsTestedSet}
use Rattle.model.specs.claims.SetMeanings.{ConstrainsOrEquates, DemandsAreWhole, CanBeServed}
use Rattle.laws_typing.specs.WellTypedPrograms.{IsWellTypedProgram}
use Rattle.laws_sites.specs.VisitLaws.{EqualSitesAreMade}
use Rattle.laws_sites.specs.BuiltSets.{OfBuiltSets}

-- the closed demands of a built rule are all that follows, where its visit makes the sites that it equates
abbrev pub ClosingsOfBuiltRulesAreWhole : Type 0
ClosingsOfBuiltRulesAreWhole =
    (p : Program) (before : List SiteTerm) (r : TypedRule) → EqualSitesAreMade (demands_of p r) → is_built p before r ≡ true
    → ClosedIsWhole (demands_of p r) (closed before (demands_of p r))

-- a constrained site stands in no class of a built rule's closed demands
abbrev pub ConstrainedSitesStandInNoClass : Type 0
ConstrainedSitesStandInNoClass =
    (p : Program) (before : List SiteTerm) (r : TypedRule) → is_built p before r ≡ true
    → (s : SiteTerm) (c : Constraint) (class : List SiteTerm) → Contains (closed before (demands_of p r)).constraints (s, c)
    → Contains (closed before (demands_of p r)).classes class → Contains class s → ⊥

-- so no rule of a built set both constrains and equates a site
abbrev pub BuiltRulesConstrainOrEquate : Type 0
BuiltRulesConstrainOrEquate = (p : Program) (t : ℕ) (set : SiteSet) → IsBuilt p t set → All ConstrainsOrEquates set.rules

-- so the closed demands of each rule that is built of a well-typed program's are all that follows
abbrev pub BuiltDemandsAreWhole : Type 0
BuiltDemandsAreWhole = (p : Program) (t : ℕ) → IsWellTypedProgram p → DemandsAreWhole p t

-- a set that is built of a well-typed program's rules can be served
abbrev pub BuiltSetsCanBeServed : Type 0
BuiltSetsCanBeServed = OfBuiltSets CanBeServed

-- and it meets what choosing from it, and collecting of it, asks
abbrev pub BuiltSetsAreTested : Type 0
BuiltSetsAreTested = OfBuiltSets (λ p t set. is_multi p t ≡ false → All (λ r. r.iterators ≡ []) set.rules → IsTestedSet set)

abbrev pub BuiltSetsAreCollected : Type 0
BuiltSetsAreCollected = OfBuiltSets (λ p t set. is_multi p t ≡ true → All (λ b. HasCollectedResults p b.rule) (built_rules p t) → IsCollectedSet set)
