use Rattle.std.proofs.Common.{take}
use Rattle.core_serialize.specs.NeededTests.{SearchesAt, IsWanted, OfSome}
use Rattle.core_serialize.specs.PlaceViews.{set_at}
use Rattle.core_serialize.proofs.open_tests.try_all_wanted.Given as goal

abbrev pub invariant-loop-number : goal.invariant-loop-number
invariant-loop-number l = SearchesAt l.place (OfSome (IsWanted (set_at l.place).rules) (take l.number-index l.highest)) l.fn.search l.search
