use Rattle.std.proofs.Common.{length}
use Rattle.spec_cases.proofs.sorts.+add_sorts.Given as goal

abbrev pub decreases-add_sorts : goal.decreases-add_sorts
decreases-add_sorts l = length l.sorts.now
