use Rattle.std.proofs.Common.{◌≡◌, nat_lt, take}
use Rattle.std.specs.List.{filter}
use Rattle.core_overlap.specs.Graphs.{unreported_at}
use Rattle.core_overlap.proofs.overlap.unreported.Given as goal

abbrev pub invariant-loop-other : goal.invariant-loop-other
invariant-loop-other l = l.found.items ≡ filter (λ o. nat_lt 0 (unreported_at l.counts o)) (take l.other-index l.other-items)
