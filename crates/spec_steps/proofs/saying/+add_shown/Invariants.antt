use Rattle.std.proofs.Common.{length}
use Rattle.spec_steps.proofs.saying.+add_shown.Given as goal

abbrev pub decreases-add_shown : goal.decreases-add_shown
decreases-add_shown l = length l.saids.now
