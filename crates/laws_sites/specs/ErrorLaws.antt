-- What the errors that checking answers name: rules that are left out, wrong overlaps and masks.
use Rattle.std.specs.Prelude.{◌≡◌, ℕ, ◌≤◌, Bool, false, ◌&&◌, ◌||◌, List, ◌∷◌, length, map, Some, slice_get, Contains}
use Rattle.model.specs.lists.Syntax.{Position}
use Rattle.model.specs.rules.Typed.{TypedRule}
use Rattle.model.specs.rules.Program.{Program}
use Rattle.model.specs.visits.Demands.{demands_of}
use Rattle.model.specs.sites.Closure.{reported}
use Rattle.model.specs.sites.Limits.{RuleLimit, PassesLimit, sites_wanted}
use Rattle.model.specs.sites.Overlap.{HasDistinctPositions, BuiltRule, OverlapsWrongly, RuleReport, position_eq}
use Rattle.model.specs.claims.Refusals.{Refusal, unreachable, overlapping, shadowing, past_limit, refusal_of, sites_before}
use Rattle.model.specs.claims.Layers.{CheckReports}
use Rattle.laws_typing.specs.WellTypedPrograms.{IsWellTypedProgram}
use Rattle.laws_sites.specs.LeftOutLaws.{IsLeftOut}
use Rattle.laws_sites.specs.PairLaws.{has_place, times}
use Rattle.laws_sites.specs.ReportLaws.{OverlapAt}
use Rattle.laws_sites.specs.ShadowLaws.{check_errors, names_mask, shadowed_by, IsMask, IsOfMask}

-- an error says that the rule at a position is left out: it can't match, or passes a limit
abbrev pub SaysLeftOut : Position → Refusal → Type 0
SaysLeftOut at (unreachable place) = place ≡ at
SaysLeftOut at (past_limit limit place) = place ≡ at
SaysLeftOut at _ = ⊥

-- the test of it
abbrev pub says_left_out : Position → Refusal → Bool
says_left_out at (unreachable place) = position_eq place at
says_left_out at (past_limit limit place) = position_eq place at
says_left_out at _ = false

-- an error says that a rule is left out
pub record IsSaidLeftOut (errors : List Refusal) (r : TypedRule) : Type 0 where
  pub error : Refusal
  pub answered : Contains errors error
  pub says : SaysLeftOut r.at error

-- the rule at a position is left out
pub record IsLeftOutAt (p : Program) (at : Position) : Type 0 where
  pub place : ℕ
  pub rule : TypedRule
  pub out : IsLeftOut p place rule
  pub here : rule.at ≡ at

-- if no two rules stand at one position, so many errors say that rules are left out: exactly one of a rule that passes a limit;
-- of one that passes none, one for each conflict or cycle that is reported of its demands, and so none where it can match
pub record AreSaidOnce (p : Program) (errors : List Refusal) : Type 0 where
  pub past_limit_once : (i : ℕ) (r : TypedRule) (l : RuleLimit) → slice_get p.rules i ≡ Some r → PassesLimit p (sites_before p i r) r l → times (says_left_out r.at) errors ≡ 1
  pub within_limits : (i : ℕ) (r : TypedRule) → slice_get p.rules i ≡ Some r → ((l : RuleLimit) → PassesLimit p (sites_before p i r) r l → ⊥)
      → times (says_left_out r.at) errors ≡ length (reported (sites_wanted p (sites_before p i r) r) (demands_of p r))

-- each rule that is left out has an error at its position, and each error that says so is of a rule that is left out; a rule that
-- passes a limit has no second one
pub record NamesLeftOut (p : Program) (errors : List Refusal) : Type 0 where
  pub each_rule : (i : ℕ) (r : TypedRule) → IsLeftOut p i r → IsSaidLeftOut errors r
  pub each_error : (at : Position) (x : Refusal) → Contains errors x → SaysLeftOut at x → IsLeftOutAt p at
  pub once : HasDistinctPositions p → AreSaidOnce p errors

-- an overlap error lists both positions, one of them first
abbrev pub names_both : Position → Position → Refusal → Bool
names_both a b (overlapping (x ∷ xs)) = (position_eq x a && has_place b xs) || (position_eq x b && has_place a xs)
names_both a b _ = false

-- each two rules that overlap wrongly stand in exactly one overlap error that lists one of them first; each overlap error lists
-- a rule besides its first, and each further rule overlaps wrongly with the first
pub record NamesPairs (p : Program) (errors : List Refusal) : Type 0 where
  pub once : (t i j : ℕ) (o : OverlapsWrongly p t i j) → times (names_both o.first.rule.at o.second.rule.at) errors ≡ 1
  pub only : (first : Position) (others : List Position) (at : Position) → Contains errors (overlapping (first ∷ others)) → Contains others at → OverlapAt p first at
  pub two : (rules : List Position) → Contains errors (overlapping rules) → 2 ≤ length rules

-- an error lists exactly the rules that a mask shadows, in rule order; if no two rules stand at one position, no other error
-- names the mask
pub record IsNamedMask (p : Program) (errors : List Refusal) (t : ℕ) (m : BuiltRule) : Type 0 where
  pub answered : Contains errors (shadowing (shadowed_by p t m) m.rule.at)
  pub once : HasDistinctPositions p → times (names_mask m.rule.at) errors ≡ 1

-- so is each mask, and each shadow error is of one
pub record NamesMasks (p : Program) (errors : List Refusal) : Type 0 where
  pub each_mask : (t : ℕ) (m : BuiltRule) → IsMask p t m → IsNamedMask p errors t m
  pub only : (listed : List Position) (at : Position) → Contains errors (shadowing listed at) → IsOfMask p listed at

-- what checking a well-typed program may answer names the rules that are left out
abbrev pub CheckErrorsNameLeftOut : Type 0
CheckErrorsNameLeftOut =
    (p : Program) (reports : List RuleReport) → IsWellTypedProgram p → CheckReports p reports → NamesLeftOut p (map refusal_of reports)

-- what holds of the errors of a well-typed program's check
abbrev pub OfCheckErrors : (Program → List Refusal → Type 0) → Type 0
OfCheckErrors P = (p : Program) → IsWellTypedProgram p → P p (check_errors p)

abbrev pub CheckErrorsNamePairs : Type 0
CheckErrorsNamePairs = OfCheckErrors NamesPairs

abbrev pub CheckErrorsNameMasks : Type 0
CheckErrorsNameMasks = OfCheckErrors NamesMasks
