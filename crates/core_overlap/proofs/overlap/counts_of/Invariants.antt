use Rattle.core_overlap.proofs.MapTurns.{AreCounted}
use Rattle.core_overlap.proofs.overlap.counts_of.Given as goal

abbrev pub invariant-loop-place : goal.invariant-loop-place
invariant-loop-place l = AreCounted l.others l.counts l.place-iterator
