use Rattle.std.proofs.Common.{length}
use Rattle.spec_asked.proofs.marks.+mark_each.Given as goal

abbrev pub decreases-mark_each : goal.decreases-mark_each
decreases-mark_each l = length l.sites.now
