-- What built sets give to those who use them: the facts that trees rest on, and that a set means what its typed rules do.
use Rattle.std.specs.Prelude.{◌≡◌, ℕ, ℤ, ◌<◌, true, false, not, List, [], ◌∷◌, ◌++◌, Some, slice_get, is_some, All, Contains, IsTrue, ◌⊎◌}
use Rattle.std.specs.List.{filter}
use Rattle.model.specs.lists.Names.{IsDistinct}
use Rattle.model.specs.lists.Ranges.{Range, IsInRange, range_of}
use Rattle.model.specs.rules.Values.{Value, args_well_typed}
use Rattle.model.specs.rules.Meaning.{Meaning}
use Rattle.model.specs.rules.Outcome.{Outcome}
use Rattle.model.specs.rules.Matching.{Vars, matches}
use Rattle.model.specs.rules.RightSide.{right_side}
use Rattle.model.specs.rules.Typed.{TypedIfLet, TypedRule}
use Rattle.model.specs.rules.Program.{Program, is_multi, arg_types, rules_of}
use Rattle.model.specs.sites.Sites.{Site, int_site, Constraint, is_int, SetRule, SiteSet, sources_at, SiteTerm, unfold_site}
use Rattle.model.specs.visits.Demands.{demands_of, Visit, visit_start, visit_args, visit_pattern, visit_expr, has_site}
use Rattle.model.specs.sites.Closure.{ClosedIsWhole}
use Rattle.model.specs.trees.Places.{joins_in, all_below}
use Rattle.model.specs.sites.Gates.{gate_demanded}
use Rattle.model.specs.sites.Serves.{Serves, TellsConstantsApart}
use Rattle.model.specs.trees.Run.{World, world_of}
use Rattle.model.specs.rules.Picks.{Pick, picks, SitedVars, matches_under, right_side_under}
use Rattle.model.specs.trees.Collects.{afresh, calls_in, content_at, demands_hold, as_list}
use Rattle.model.specs.trees.SetRuns.{tested_sites, IsTaken, IsTakenUnder}
use Rattle.model.specs.sites.Overlap.{BuiltRule, built_rules, Overlaps, Shadows}
use Rattle.model.specs.trees.WellBuilt.{HasOnePriority}

-- the closed demands of each built rule of a term are all that follows from what its visit demands
abbrev pub DemandsAreWhole : Program → ℕ → Type 0
DemandsAreWhole p t = (b : BuiltRule) → Contains (built_rules p t) b → ClosedIsWhole (demands_of p b.rule) b.demands

-- a constrained site of a rule is in no class of it
abbrev pub ConstrainsOrEquates : SetRule → Type 0
ConstrainsOrEquates r = (s a : ℕ) (c : Constraint) → Contains r.constraints (s, c) → IsTrue (joins_in r.classes s a) → ⊥

-- the gates below the tested sites of a rule are demanded by it, where it goes over each call that it picks from
abbrev pub DemandsItsGates : List Site → SetRule → Type 0
DemandsItsGates sites r = All (λ s. IsTrue (gate_demanded r (slice_get sites s))) (all_below sites (tested_sites r))

-- the multi calls of if-lets that the value takes no answer of
abbrev pub calls_left : Program → List TypedIfLet → Visit → List SiteTerm
calls_left p [] v = []
calls_left p (i ∷ rest) v =
    let a = visit_expr p i.rhs (afresh v) in
    filter (λ c. not (has_site (calls_in a.site) c)) a.visit.demands.iterators ++ calls_left p rest (visit_pattern p i.lhs a.site a.visit)

abbrev pub calls_left_by : Program → TypedRule → List SiteTerm
calls_left_by p r = calls_left p r.iflets (visit_args p 0 r.args visit_start)

-- a call that a rule goes over is left unused, or the gates below it are demanded
abbrev pub DemandsGatesOfCall : Program → List Site → BuiltRule → SetRule → ℕ → Type 0
DemandsGatesOfCall p sites b r s = Contains (calls_left_by p b.rule) (unfold_site sites s) ⊎ All (λ u. IsTrue (gate_demanded r (slice_get sites u))) (all_below sites (s ∷ []))

-- a rule of a built set and the rule that it was built of
pub record AreOneRule (p : Program) (t : ℕ) (set : SiteSet) (b : BuiltRule) (r : SetRule) : Type 0 where
  pub place : ℕ
  pub typed : slice_get (built_rules p t) place ≡ Some b
  pub built : slice_get set.rules place ≡ Some r

-- what those who use a built set rest on: sites stand once, after their sources; a site isn't both constrained and equated;
-- the gates below what a rule tests are demanded by it, and those below the calls that it goes over, but for calls of
-- if-lets that are left unused; the rules of a multi term have one priority
pub record CanBeServed (p : Program) (t : ℕ) (set : SiteSet) : Type 0 where
  pub once : IsDistinct set.sites
  pub sources : (s a : ℕ) → Contains (sources_at set.sites s) a → a < s
  pub apart : All ConstrainsOrEquates set.rules
  pub gates : All (DemandsItsGates set.sites) set.rules
  pub gates_of_calls : (b : BuiltRule) (r : SetRule) → AreOneRule p t set b r → All (DemandsGatesOfCall p set.sites b r) r.iterators
  pub one_priority : is_multi p t ≡ true → HasOnePriority set.rules

-- an integer literal of a built-in type lies in the type's range
abbrev pub LiesInRange : Program → ℕ → ℤ → Type 0
LiesInRange p ty z = (range : Range) → range_of (slice_get p.types ty) ≡ Some range → IsInRange range z

-- those of a set do, as sites and as constraints
pub record HasNumbersInRange (p : Program) (set : SiteSet) : Type 0 where
  pub sites : (s ty : ℕ) (z : ℤ) → slice_get set.sites s ≡ Some (int_site z ty) → LiesInRange p ty z
  pub constraints : All (λ r. (s ty : ℕ) (z : ℤ) → Contains r.constraints (s, is_int z ty) → LiesInRange p ty z) set.rules

-- what holds on all well-typed arguments, under every meaning that serves a term's rules and tells constants apart
abbrev pub WhereServed : Program → ℕ → (Meaning → List Value → Type 0) → Type 0
WhereServed p t P =
    (m : Meaning) (args : List Value) → IsTrue (args_well_typed p.types (arg_types p t) args)
    → Serves p m args (rules_of p t) → TellsConstantsApart p m (rules_of p t) → P m args

-- under each of its picks a rule matches exactly where its demands hold
abbrev pub MatchesByDemands : Program → ℕ → SiteSet → Type 0
MatchesByDemands p t set = WhereServed p t (λ m args. (b : BuiltRule) (r : SetRule) (k : Pick) → AreOneRule p t set b r
    → Contains (picks p m args b.rule) k → is_some (matches_under p m k b.rule args) ≡ demands_hold (world_of p t set.sites m args) k r)

-- the same world, in which a return ends the run: binding one rule's sites doesn't depend on whether the term is multi
abbrev pub returning_once : World → World
returning_once w = record w { multi = false }

-- taking a rule that matches and goes over no call gives its right side's outcome
abbrev pub TakenGivesOutcome : Program → ℕ → SiteSet → Type 0
TakenGivesOutcome p t set = WhereServed p t (λ m args. (b : BuiltRule) (r : SetRule) (e : Vars) (o : Outcome) → AreOneRule p t set b r
    → r.iterators ≡ [] → matches p m b.rule args ≡ Some e → IsTaken (returning_once (world_of p t set.sites m args)) r o
    → o ≡ right_side p m b.rule e)

-- and of a rule that goes over calls and makes no impure one, under each of its picks: a result, or a failure where an
-- unwrap finds nothing, and never stuck
abbrev pub TakenUnderPickGivesOutcome : Program → ℕ → SiteSet → Type 0
TakenUnderPickGivesOutcome p t set = WhereServed p t (λ m args. (b : BuiltRule) (r : SetRule) (k : Pick) (e : SitedVars) (o : Outcome) → AreOneRule p t set b r
    → r.impure ≡ [] → Contains (picks p m args b.rule) k → matches_under p m k b.rule args ≡ Some e → IsTakenUnder (returning_once (world_of p t set.sites m args)) k r o
    → o ≡ right_side_under p m k b.rule e)

-- of a rule that makes no impure call, the result's site holds under a pick what the right side gives
abbrev pub ResultsAreHeld : Program → ℕ → SiteSet → Type 0
ResultsAreHeld p t set = WhereServed p t (λ m args. (b : BuiltRule) (r : SetRule) (k : Pick) (e : SitedVars) → AreOneRule p t set b r
    → r.impure ≡ [] → Contains (picks p m args b.rule) k → matches_under p m k b.rule args ≡ Some e
    → (right_side_under p m k b.rule e).results ≡ as_list (content_at (world_of p t set.sites m args) k r.result))

-- a built set means what its typed rules do
pub record MeansItsRules (p : Program) (t : ℕ) (set : SiteSet) : Type 0 where
  pub match : MatchesByDemands p t set
  pub outcome : TakenGivesOutcome p t set
  pub outcome_under_picks : TakenUnderPickGivesOutcome p t set
  pub results : ResultsAreHeld p t set

-- two built rules of a term that isn't multi
pub record AreRulesOfOneResult (p : Program) (t : ℕ) (a b : BuiltRule) : Type 0 where
  pub one_of : Contains (built_rules p t) a
  pub other_of : Contains (built_rules p t) b
  pub one_result : is_multi p t ≡ false

-- of two rules of a term that isn't multi: those that don't overlap never match together, and a shadowed rule matches only
-- where its mask does
pub record TellsRulesApart (p : Program) (t : ℕ) : Type 0 where
  pub overlap : WhereServed p t (λ m args. (a b : BuiltRule) → AreRulesOfOneResult p t a b
      → (Overlaps a.demands b.demands → ⊥) → IsTrue (is_some (matches p m a.rule args)) → IsTrue (is_some (matches p m b.rule args)) → ⊥)
  pub shadow : WhereServed p t (λ m args. (mask b : BuiltRule) → AreRulesOfOneResult p t mask b
      → Shadows mask b → IsTrue (is_some (matches p m b.rule args)) → IsTrue (is_some (matches p m mask.rule args)))
