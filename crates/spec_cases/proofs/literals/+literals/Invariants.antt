use Rattle.std.proofs.Common.{length}
use Rattle.spec_cases.proofs.literals.+literals.Given as goal

abbrev pub decreases-literals : goal.decreases-literals
decreases-literals l = length l.operands.now
