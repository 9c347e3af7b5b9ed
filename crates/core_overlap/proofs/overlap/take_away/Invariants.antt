use Rattle.std.proofs.Common.{◌≡◌, ◌-◌, take}
use Rattle.core_syntax.specs.declared.syntax.Pos.{Pos}
use Rattle.core_overlap.specs.Graphs.{unreported_at, position_count}
use Rattle.core_overlap.proofs.overlap.take_away.Given as goal

abbrev pub invariant-loop-other : goal.invariant-loop-other
invariant-loop-other l = (q : Pos) → unreported_at l.counts q ≡ unreported_at l.initial.counts q - position_count q (take l.other-index l.found)
