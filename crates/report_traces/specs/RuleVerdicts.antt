-- What becomes of a rule of a term that isn't multi on a call.
use Rattle.std.specs.Prelude.{ℕ, Bool, ◌==◌, ◌&&◌, if◌then◌else◌, List, ◌++◌, Option, Some, None, is_some, codes}
use Rattle.std.specs.Ordering.{int_cmp, is_lt}
use Rattle.std.specs.List.{filter}
use Rattle.cranelift_isle.specs.RuleViews.{rule_view}
use Rattle.model.specs.rules.Choice.{chosen}
use Rattle.model.specs.rules.Matching.{matches}
use Rattle.model.specs.rules.Meaning.{Meaning}
use Rattle.model.specs.rules.Program.{Program}
use Rattle.model.specs.rules.Typed.{TypedRule}
use Rattle.model.specs.rules.Values.{Value}
use Rattle.report_traces.specs.declared.verdicts.RuleVerdict as D
use Rattle.report_traces.specs.declared.verdicts.RuleVerdict.TheVariants as V

-- it is taken; it matches, and another one comes first; it doesn't match
pub data RuleVerdict : Type 0 where
  taken : RuleVerdict
  passed_over : (first : TypedRule) → RuleVerdict
  unmet : RuleVerdict

-- whether a rule is one of another's term, with a greater priority
abbrev pub is_above : TypedRule → TypedRule → Bool
is_above r s = (s.root_term == r.root_term) && is_lt (int_cmp r.prio s.prio)

-- the rules of a rule's term that have a greater priority
abbrev pub rules_above : TypedRule → List TypedRule → List TypedRule
rules_above r rules = filter (is_above r) rules

abbrev pub unless_passed : Option TypedRule → RuleVerdict
unless_passed None = taken
unless_passed (Some first) = passed_over first

-- a rule that matches is taken, unless one of greater priority matches: then that of these which is chosen comes first
abbrev pub verdict_on : Program → Meaning → List TypedRule → TypedRule → List Value → RuleVerdict
verdict_on p m rules r args = if is_some (matches p m r args) then unless_passed (chosen p m (rules_above r rules) args) else unmet

abbrev pub verdict_view : D.RuleVerdict → RuleVerdict
verdict_view V.Taken = taken
verdict_view (V.PassedOver first) = passed_over (rule_view first.now)
verdict_view V.Unmet = unmet

-- what is said of it
abbrev pub verdict_words : RuleVerdict → List ℕ
verdict_words taken = codes ": taken"
verdict_words (passed_over first) = codes ": not taken"
verdict_words unmet = codes ": not taken"
