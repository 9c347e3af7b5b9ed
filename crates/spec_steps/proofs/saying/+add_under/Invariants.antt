use Rattle.std.proofs.Common.{length}
use Rattle.spec_steps.proofs.saying.+add_under.Given as goal

abbrev pub decreases-add_under : goal.decreases-add_under
decreases-add_under l = length l.saids.now
