use Rattle.std.proofs.Common.{length}
use Rattle.spec_steps.proofs.events.+add_calls.Given as goal

abbrev pub decreases-add_calls : goal.decreases-add_calls
decreases-add_calls l = length l.calls.now
