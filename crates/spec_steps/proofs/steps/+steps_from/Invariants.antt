use Rattle.std.proofs.Common.{length}
use Rattle.spec_steps.proofs.steps.+steps_from.Given as goal

abbrev pub decreases-steps_from : goal.decreases-steps_from
decreases-steps_from l = length l.events.now
