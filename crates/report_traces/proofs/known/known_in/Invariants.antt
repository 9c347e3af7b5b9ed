use Rattle.std.proofs.Common.{◌≡◌, drop}
use Rattle.run_terms.specs.ValueViews.{value_view}
use Rattle.report_traces.specs.KnownAnswers.{known_in}
use Rattle.report_traces.proofs.known.known_in.Given as goal

abbrev pub invariant-loop-known : goal.invariant-loop-known
invariant-loop-known l = known_in (drop l.known-index l.all) l.term.0 (value_view l.key) ≡ known_in l.all l.term.0 (value_view l.key)
