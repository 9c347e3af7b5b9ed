use Rattle.std.proofs.Common.{length}
use Rattle.spec_steps.proofs.splitting.+told_steps.Given as goal

abbrev pub decreases-told_steps : goal.decreases-told_steps
decreases-told_steps l = length l.tests.now
