use Rattle.std.proofs.Common.{◌≡◌, ◌++◌, drop, map}
use Rattle.std.specs.Prelude.{string_bytes}
use Rattle.report_traces.specs.EchoedTerms.{each_name}
use Rattle.report_traces.specs.OutcomeTexts.{names_in}
use Rattle.report_traces.proofs.echoed.push_each_name.Given as goal

abbrev pub invariant-loop-term : goal.invariant-loop-term
invariant-loop-term l =
    string_bytes l.out ++ each_name (names_in l.lowered) (map (λ t. t.0) (drop l.term-index l.terms)) ≡ string_bytes l.fn.out ++ each_name (names_in l.lowered) (map (λ t. t.0) l.terms)
