use Rattle.std.proofs.Common.{length}
use Rattle.spec_asked.proofs.demanded.+add_tested.Given as goal

abbrev pub decreases-add_tested : goal.decreases-add_tested
decreases-add_tested l = length l.asked.now
