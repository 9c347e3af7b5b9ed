use Rattle.std.proofs.Common.{length}
use Rattle.spec_steps.proofs.excluding.+all_met.Given as goal

abbrev pub decreases-all_met : goal.decreases-all_met
decreases-all_met l = length l.tests.now
