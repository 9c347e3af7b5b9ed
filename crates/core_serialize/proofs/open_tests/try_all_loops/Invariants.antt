use Rattle.std.proofs.Common.{take}
use Rattle.core_serialize.specs.NeededTests.{SearchesAt, IsLoopOf, OfSome}
use Rattle.core_serialize.specs.PlaceViews.{set_at}
use Rattle.core_serialize.proofs.open_tests.try_all_loops.Given as goal

abbrev pub invariant-loop-number : goal.invariant-loop-number
invariant-loop-number l = SearchesAt l.place (OfSome (IsLoopOf (set_at l.place).rules) (take l.number-index l.highest)) l.fn.search l.search
