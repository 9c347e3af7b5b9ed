use Rattle.std.proofs.Common.{take}
use Rattle.core_serialize.specs.NeededTests.{SearchesAt, IsPair, OfSome}
use Rattle.core_serialize.proofs.open_tests.try_pairs_of.Given as goal

abbrev pub invariant-loop-b : goal.invariant-loop-b
invariant-loop-b l = SearchesAt l.place (OfSome (IsPair l.a) (take l.b-index l.others)) l.fn.search l.search
