use Rattle.std.proofs.Common.{◌≡◌, drop}
use Rattle.cranelift_isle.specs.Lowerings.{lowered_views}
use Rattle.report_queries.specs.Lookups.{entry_of}
use Rattle.report_queries.proofs.rules.lowered_term.Given as goal

abbrev pub invariant-loop-term : goal.invariant-loop-term
invariant-loop-term l = entry_of l.id.0 (lowered_views (drop l.term-index l.term-items)) ≡ entry_of l.id.0 (lowered_views l.lowered.terms.items)
