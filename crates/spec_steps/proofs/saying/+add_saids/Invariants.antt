use Rattle.std.proofs.Common.{length}
use Rattle.spec_steps.proofs.saying.+add_saids.Given as goal

abbrev pub decreases-add_saids : goal.decreases-add_saids
decreases-add_saids l = length l.exprs.now
