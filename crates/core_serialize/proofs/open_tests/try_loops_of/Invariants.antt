use Rattle.std.proofs.Common.{take}
use Rattle.core_serialize.specs.NeededTests.{SearchesAt, IsLoop, OfSome}
use Rattle.core_serialize.proofs.open_tests.try_loops_of.Given as goal

abbrev pub invariant-loop-call : goal.invariant-loop-call
invariant-loop-call l = SearchesAt l.place (OfSome IsLoop (take l.call-index l.call-items)) l.fn.search l.search
