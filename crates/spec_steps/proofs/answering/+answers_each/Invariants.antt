use Rattle.std.proofs.Common.{length}
use Rattle.spec_steps.proofs.answering.+answers_each.Given as goal

abbrev pub decreases-answers_each : goal.decreases-answers_each
decreases-answers_each l = length l.list.now
