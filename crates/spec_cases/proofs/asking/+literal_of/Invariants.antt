use Rattle.std.proofs.Common.{length}
use Rattle.spec_cases.proofs.asking.+literal_of.Given as goal

abbrev pub decreases-literal_of : goal.decreases-literal_of
decreases-literal_of l = length l.sorts.now
