-- Of the reports so far something is said, where there are some.
use Rattle.std.proofs.Common.{◌≡◌, ◌≢◌, [], string_bytes}
use Rattle.report_print.proofs.layout.push_reports.Given as goal

abbrev pub invariant-loop-report : goal.invariant-loop-report
invariant-loop-report l =
    (l.report-index ≡ 0 → string_bytes l.out ≡ string_bytes l.initial.out) × (l.report-index ≢ 0 → string_bytes l.out ≢ [])
