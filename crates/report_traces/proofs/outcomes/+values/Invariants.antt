use Rattle.std.proofs.Common.{◌≡◌, ◌++◌, drop}
use Rattle.std.specs.Prelude.{string_bytes}
use Rattle.run_terms.specs.ValueViews.{value_views}
use Rattle.report_traces.specs.OutcomeTexts.{names_in, values_words}
use Rattle.report_traces.proofs.outcomes.+values.Given as goal

abbrev pub invariant-push_values-loop-value : goal.invariant-push_values-loop-value
invariant-push_values-loop-value l =
    string_bytes l.out ++ values_words (names_in l.lowered) (value_views (drop l.value-index l.values)) ≡ string_bytes l.fn.out ++ values_words (names_in l.lowered) (value_views l.values)
