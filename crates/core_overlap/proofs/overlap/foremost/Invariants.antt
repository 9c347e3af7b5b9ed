use Rattle.core_syntax.specs.declared.syntax.Pos.{Pos}
use Rattle.core_overlap.specs.Graphs.{IsQueued}
use Rattle.core_overlap.proofs.Queues.{said}
use Rattle.core_overlap.proofs.overlap.foremost.Given as goal

abbrev pub invariant-loop-most : goal.invariant-loop-most
invariant-loop-most l = (q : Pos) → IsQueued l.counts l.fn.queue q → IsQueued l.counts l.queue q

abbrev pub decreases-loop-most : goal.decreases-loop-most
decreases-loop-most l = said l.queue.keys
