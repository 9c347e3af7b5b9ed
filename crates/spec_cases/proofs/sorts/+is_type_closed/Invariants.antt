use Rattle.std.proofs.Common.{length}
use Rattle.spec_cases.proofs.sorts.+is_type_closed.Given as goal

abbrev pub decreases-is_type_closed : goal.decreases-is_type_closed
decreases-is_type_closed l = length l.sorts.now
