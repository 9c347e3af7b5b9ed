-- Which rule is chosen, and what comes of it: a test of every rule, by priority.
use Rattle.std.specs.Prelude.{◌≡◌, ℕ, List, [], ◌∷◌, Option, Some, None, if◌then◌else◌, slice_get, is_some, IsTrue}
use Rattle.std.specs.Ordering.{int_cmp, is_lt}
use Rattle.model.specs.rules.Values.{Value}
use Rattle.model.specs.rules.Meaning.{Meaning}
use Rattle.model.specs.rules.Outcome.{Outcome, no_rule}
use Rattle.model.specs.rules.Program.{Program}
use Rattle.model.specs.rules.Matching.{Vars, matches}
use Rattle.model.specs.rules.RightSide.{right_side}
use Rattle.model.specs.rules.Typed.{TypedRule}

-- the first of two, where its priority isn't lower
abbrev pub higher : TypedRule → Option TypedRule → Option TypedRule
higher r None = Some r
higher r (Some s) = if is_lt (int_cmp r.prio s.prio) then Some s else Some r

-- the matching rule of greatest priority
abbrev pub chosen : Program → Meaning → List TypedRule → List Value → Option TypedRule
chosen p m [] args = None
chosen p m (r ∷ rs) args = if is_some (matches p m r args) then higher r (chosen p m rs args) else chosen p m rs args

abbrev pub with_vars : Program → Meaning → TypedRule → Option Vars → Outcome
with_vars p m r None = no_rule
with_vars p m r (Some e) = right_side p m r e

abbrev pub outcome_of_rule : Program → Meaning → List Value → Option TypedRule → Outcome
outcome_of_rule p m args None = no_rule
outcome_of_rule p m args (Some r) = with_vars p m r (matches p m r args)

-- the outcome of the matching rule of greatest priority, or no rule with no impure calls
abbrev pub choice : Program → Meaning → List TypedRule → List Value → Outcome
choice p m rs args = outcome_of_rule p m args (chosen p m rs args)

-- of two different rules of one priority, at most one matches
abbrev pub MatchesOnce : Program → Meaning → List TypedRule → List Value → Type 0
MatchesOnce p m rs args =
    (i j : ℕ) (r s : TypedRule) → slice_get rs i ≡ Some r → slice_get rs j ≡ Some s → r.prio ≡ s.prio
    → IsTrue (is_some (matches p m r args)) → IsTrue (is_some (matches p m s args)) → i ≡ j
