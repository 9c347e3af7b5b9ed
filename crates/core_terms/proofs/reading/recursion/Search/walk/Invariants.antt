use Rattle.core_terms.specs.Recursion.{IsOnWay, steps_left}
use Rattle.core_terms.proofs.reading.recursion.Search.walk.Given as goal

abbrev pub invariant-loop-last : goal.invariant-loop-last
invariant-loop-last l = IsOnWay l.callees l.root l.self

abbrev pub decreases-loop-last : goal.decreases-loop-last
decreases-loop-last l = steps_left l.callees l.root l.self
