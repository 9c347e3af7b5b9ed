use Rattle.std.proofs.Common.{◌≡◌, drop}
use Rattle.run_terms.specs.ValueViews.{value_view}
use Rattle.run_terms.proofs.ValueSteps.{before}
use Rattle.report_traces.proofs.EchoSteps.{each}
use Rattle.report_traces.proofs.echo.for_each_type.Given as goal

abbrev pub invariant-loop : goal.invariant-loop
invariant-loop l = before l.out.items (each (drop l.index l.types) (value_view l.value)) ≡ each l.types (value_view l.value)
