use Rattle.core_syntax.specs.declared.syntax.Pos.{Pos}
use Rattle.core_overlap.specs.Graphs.{IsQueued}
use Rattle.core_overlap.proofs.MapTurns.{IsDoneOrLeft}
use Rattle.core_overlap.proofs.overlap.queue_of.Given as goal

abbrev pub invariant-loop-place : goal.invariant-loop-place
invariant-loop-place l = (q : Pos) → IsDoneOrLeft (IsQueued l.counts l.queue) l.counts l.place-iterator q
