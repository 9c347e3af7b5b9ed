use Rattle.std.proofs.Common.{◌≡◌, ◌++◌, drop}
use Rattle.std.specs.Prelude.{string_bytes}
use Rattle.run_terms.specs.RunViews.{call_views}
use Rattle.report_traces.specs.OutcomeTexts.{each_call, names_in}
use Rattle.report_traces.proofs.outcomes.push_each_call.Given as goal

abbrev pub invariant-loop-call : goal.invariant-loop-call
invariant-loop-call l =
    string_bytes l.out ++ each_call (names_in l.lowered) (call_views (drop l.call-index l.calls)) ≡ string_bytes l.fn.out ++ each_call (names_in l.lowered) (call_views l.calls)
