use Rattle.std.proofs.Common.{take}
use Rattle.core_serialize.specs.NeededTests.{SearchesAt, IsPairOf, OfSome}
use Rattle.core_serialize.proofs.open_tests.try_equalities.Given as goal

abbrev pub invariant-loop-class : goal.invariant-loop-class
invariant-loop-class l = SearchesAt l.place (OfSome (λ c. IsPairOf c.items) (take l.class-index l.class-items)) l.fn.search l.search
