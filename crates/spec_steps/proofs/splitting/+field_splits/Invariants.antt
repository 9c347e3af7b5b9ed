use Rattle.std.proofs.Common.{length}
use Rattle.spec_steps.proofs.splitting.+field_splits.Given as goal

abbrev pub decreases-field_splits : goal.decreases-field_splits
decreases-field_splits l = length l.tests.now
