-- Rules that building leaves out, and the reports on them.
use Rattle.std.specs.Prelude.{◌≡◌, ℕ, false, Some, slice_get, Contains}
use Rattle.model.specs.rules.Typed.{TypedRule}
use Rattle.model.specs.rules.Program.{Program}
use Rattle.model.specs.sites.Overlap.{is_built, RuleReport, report_position, build_reports}
use Rattle.model.specs.claims.Refusals.{sites_before}

-- the rule at a place of the program isn't built, after the sites of the rules of its term before it
pub record IsLeftOut (p : Program) (i : ℕ) (r : TypedRule) : Type 0 where
  pub here : slice_get p.rules i ≡ Some r
  pub left : is_built p (sites_before p i r) r ≡ false

-- a report at a position
pub record IsReportedAt (p : Program) (r : TypedRule) : Type 0 where
  pub report : RuleReport
  pub there : Contains (build_reports p) report
  pub at : report_position report ≡ r.at

-- a report is of a rule that is left out
pub record IsOfLeftOut (p : Program) (x : RuleReport) : Type 0 where
  pub place : ℕ
  pub rule : TypedRule
  pub out : IsLeftOut p place rule
  pub at : report_position x ≡ rule.at

-- each rule that is left out is reported at its position, and each report is of a rule that is left out
pub record LeftOutAreReported (p : Program) : Type 0 where
  pub each_rule : (i : ℕ) (r : TypedRule) → IsLeftOut p i r → IsReportedAt p r
  pub each_report : (x : RuleReport) → Contains (build_reports p) x → IsOfLeftOut p x

abbrev pub LeftOutRulesAreReported : Type 0
LeftOutRulesAreReported = (p : Program) → LeftOutAreReported p
