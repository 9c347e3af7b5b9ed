-- What theory proves of matching by demands: of one rule, of its closed demands, of what can't be met, and of built sets.
use Rattle.std.specs.Prelude.{[], ◌≡◌, ◌↔◌, ℕ, false, List, Some, is_some, IsTrue, Contains}
use Rattle.model.specs.rules.Values.{Value, args_well_typed}
use Rattle.model.specs.rules.Meaning.{many, Contents, Meaning}
use Rattle.model.specs.rules.Program.{Program, is_multi, arg_types, rules_of}
use Rattle.model.specs.rules.Typed.{TypedRule}
use Rattle.model.specs.rules.Picks.{Pick, site_content, picks, matches_under}
use Rattle.model.specs.sites.Sites.{SiteTerm}
use Rattle.model.specs.visits.Demands.{demands_of}
use Rattle.model.specs.sites.Closure.{ClosedIsWhole, IsUnreachable, DemandsHold, closed, ClosedDemandsHold}
use Rattle.model.specs.sites.Overlap.{BuiltRule, built_rules}
use Rattle.model.specs.sites.Serves.{Serves, TellsConstantsApart}
use Rattle.model.specs.claims.SetMeanings.{MatchesByDemands, ResultsAreHeld, TellsRulesApart}
use Rattle.laws_typing.specs.WellTypedPrograms.{IsWellTypedProgram}
use Rattle.laws_sites.specs.BuiltSets.{OfBuiltSets}

-- a rule on arguments of its term's types, a meaning that serves the rules of the term, and one of the rule's picks
pub record IsTried (p : Program) (t : ℕ) (m : Meaning) (args : List Value) (r : TypedRule) (k : Pick) : Type 0 where
  pub typed : IsTrue (args_well_typed p.types (arg_types p t) args)
  pub served : Serves p m args (rules_of p t)
  pub rule : Contains (rules_of p t) r
  pub pick : Contains (picks p m args r) k

-- of well-typed programs
abbrev pub WhereTried : (Program → ℕ → Meaning → List Value → TypedRule → Pick → Type 0) → Type 0
WhereTried P =
    (p : Program) (t : ℕ) (m : Meaning) (args : List Value) (r : TypedRule) (k : Pick)
    → IsWellTypedProgram p → IsTried p t m args r k → P p t m args r k

-- a rule matches exactly where its demands hold, and each call that it goes over answers a list
pub record MatchesByVisit (p : Program) (m : Meaning) (args : List Value) (r : TypedRule) (k : Pick) : Type 0 where
  pub matching : IsTrue (is_some (matches_under p m k r args)) ↔ DemandsHold m args k (demands_of p r)
  pub lists : (call : SiteTerm) → Contains (demands_of p r).iterators call → (cs : Contents) × (site_content m args k call ≡ Some (many cs))

abbrev pub VisitsMatch : Type 0
VisitsMatch = WhereTried (λ p t m args r k. MatchesByVisit p m args r k)

-- where constants are told apart, a rule whose demands no values can meet doesn't match
abbrev pub UnreachableRulesNeverMatch : Type 0
UnreachableRulesNeverMatch =
    WhereTried (λ p t m args r k. TellsConstantsApart p m (rules_of p t) → IsUnreachable (demands_of p r) → IsTrue (is_some (matches_under p m k r args)) → ⊥)

-- the closed demands of a rule, after any sites, hold exactly where its demands do, if they are all that follows from these
abbrev pub ClosedDemandsHoldAlike : Type 0
ClosedDemandsHoldAlike =
    WhereTried (λ p t m args r k. (before : List SiteTerm) → ClosedIsWhole (demands_of p r) (closed before (demands_of p r))
    → DemandsHold m args k (demands_of p r) ↔ ClosedDemandsHold m args k (closed before (demands_of p r)))

-- so those of each rule that is built of well-typed ones do
abbrev pub BuiltDemandsHoldAlike : Type 0
BuiltDemandsHoldAlike =
    (p : Program) (t : ℕ) (m : Meaning) (args : List Value) (b : BuiltRule) (k : Pick)
    → IsWellTypedProgram p → Contains (built_rules p t) b → IsTried p t m args b.rule k
    → DemandsHold m args k (demands_of p b.rule) ↔ ClosedDemandsHold m args k b.demands

-- and under each of its picks a rule of a set that is built of well-typed ones matches exactly where its demands hold
abbrev pub BuiltSetsMatchByDemands : Type 0
BuiltSetsMatchByDemands = OfBuiltSets MatchesByDemands

-- the closed demands of rules that are built of well-typed ones tell those of a term apart that isn't multi
abbrev pub BuiltRulesAreToldApart : Type 0
BuiltRulesAreToldApart = (p : Program) (t : ℕ) → IsWellTypedProgram p → TellsRulesApart p t

-- the rules of a term that isn't multi go over no calls
abbrev pub RulesWithoutMultiGoOverNoCalls : Type 0
RulesWithoutMultiGoOverNoCalls =
    (p : Program) (t : ℕ) → IsWellTypedProgram p → is_multi p t ≡ false
    → (r : TypedRule) → Contains (rules_of p t) r → (demands_of p r).iterators ≡ []

-- under each of its picks the result's site of a rule that makes no impure call, of a set that is built of well-typed ones,
-- holds what its right side gives
abbrev pub BuiltSetsHoldResults : Type 0
BuiltSetsHoldResults = OfBuiltSets ResultsAreHeld
