use Rattle.std.proofs.Common.{take}
use Rattle.core_serialize.specs.NeededTests.{SearchesAt, IsMatchAsked, OfSome}
use Rattle.core_serialize.proofs.open_tests.try_matches_of.Given as goal

abbrev pub invariant-loop-asked : goal.invariant-loop-asked
invariant-loop-asked l = SearchesAt l.place (OfSome IsMatchAsked (take l.asked-index l.all_asked)) l.fn.search l.search
