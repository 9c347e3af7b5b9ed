use Rattle.std.proofs.Common.{length}
use Rattle.spec_cases.proofs.asking.+constant_of.Given as goal

abbrev pub decreases-constant_of : goal.decreases-constant_of
decreases-constant_of l = length l.constants.now
