use Rattle.std.proofs.Common.{length}
use Rattle.spec_steps.proofs.saying.+add_assumed.Given as goal

abbrev pub decreases-add_assumed : goal.decreases-add_assumed
decreases-add_assumed l = length l.saids.now
