use Rattle.core_terms.specs.Templating.{NameNothing}
use Rattle.core_terms.proofs.reading.templates.no_callees.Given as goal

abbrev pub invariant-loop-id : goal.invariant-loop-id
invariant-loop-id l = NameNothing l._id l.callees.items
