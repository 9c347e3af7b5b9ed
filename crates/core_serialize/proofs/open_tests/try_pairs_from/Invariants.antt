use Rattle.std.proofs.Common.{take}
use Rattle.core_serialize.specs.NeededTests.{SearchesAt, IsPairWith, OfSome}
use Rattle.core_serialize.proofs.open_tests.try_pairs_from.Given as goal

abbrev pub invariant-loop-at : goal.invariant-loop-at
invariant-loop-at l = SearchesAt l.place (OfSome (IsPairWith l.class) (take l.at l.class)) l.fn.search l.search
