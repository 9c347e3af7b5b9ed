use Rattle.std.proofs.Common.{length}
use Rattle.spec_cases.proofs.fitting.+operands.Given as goal

abbrev pub decreases-operands : goal.decreases-operands
decreases-operands l = length l.forms.now
