use Rattle.std.proofs.Common.{length}
use Rattle.spec_asked.proofs.above.+add_excluded.Given as goal

abbrev pub decreases-add_excluded : goal.decreases-add_excluded
decreases-add_excluded l = length l.rules.now
