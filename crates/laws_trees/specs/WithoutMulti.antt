-- What a pick can't change of rules without multi calls.
use Rattle.std.specs.Prelude.{◌≡◌, List, [], ◌∷◌, Option, Some, None}
use Rattle.model.specs.rules.Values.{Value}
use Rattle.model.specs.rules.Meaning.{Meaning}
use Rattle.model.specs.rules.Program.{Program}
use Rattle.model.specs.rules.CallsNoMulti.{CallsNoMulti}
use Rattle.model.specs.rules.Matching.{Vars, matches}
use Rattle.model.specs.rules.RightSide.{right_side}
use Rattle.model.specs.rules.Choice.{with_vars}
use Rattle.model.specs.visits.Demands.{demands_of}
use Rattle.model.specs.rules.Picks.{Pick, picks, SitedVars, values_in, matches_under, right_side_under, bag}
use Rattle.model.specs.rules.Typed.{TypedRule}

-- a rule is without multi calls exactly where its demands go over no call
abbrev pub NoMultiIsNoIterators : Type 0
NoMultiIsNoIterators = (p : Program) (r : TypedRule) → (CallsNoMulti p r → (demands_of p r).iterators ≡ []) × ((demands_of p r).iterators ≡ [] → CallsNoMulti p r)

-- the variables taken, without their sites
abbrev pub without_sites : Option SitedVars → Option Vars
without_sites None = None
without_sites (Some e) = Some (values_in e)

-- under every pick, a rule without multi calls matches as it does without one, with the same values of its variables
abbrev pub MatchesAsPlain : Type 0
MatchesAsPlain = (p : Program) (m : Meaning) (k : Pick) (r : TypedRule) (args : List Value) → CallsNoMulti p r → without_sites (matches_under p m k r args) ≡ matches p m r args

-- under every pick, its right side does the same
abbrev pub EndsAsPlain : Type 0
EndsAsPlain = (p : Program) (m : Meaning) (k : Pick) (r : TypedRule) (e : SitedVars) → CallsNoMulti p r → right_side_under p m k r e ≡ right_side p m r (values_in e)

-- so it has the empty pick alone, and its bag is the result of its right side, where it matches
abbrev pub BagAsPlain : Type 0
BagAsPlain =
    (p : Program) (m : Meaning) (args : List Value) (r : TypedRule) → CallsNoMulti p r
    → (picks p m args r ≡ [] ∷ []) × (bag p m (r ∷ []) args ≡ (with_vars p m r (matches p m r args)).results)
