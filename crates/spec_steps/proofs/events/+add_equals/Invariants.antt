use Rattle.std.proofs.Common.{length}
use Rattle.spec_steps.proofs.events.+add_equals.Given as goal

abbrev pub decreases-add_equals : goal.decreases-add_equals
decreases-add_equals l = length l.equalities.now
