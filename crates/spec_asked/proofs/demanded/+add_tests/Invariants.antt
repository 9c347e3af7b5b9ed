use Rattle.std.proofs.Common.{length}
use Rattle.spec_asked.proofs.demanded.+add_tests.Given as goal

abbrev pub decreases-add_tests : goal.decreases-add_tests
decreases-add_tests l = length l.asked.now
