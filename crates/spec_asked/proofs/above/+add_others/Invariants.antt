use Rattle.std.proofs.Common.{length}
use Rattle.spec_asked.proofs.above.+add_others.Given as goal

abbrev pub decreases-add_others : goal.decreases-add_others
decreases-add_others l = length l.asked.now
