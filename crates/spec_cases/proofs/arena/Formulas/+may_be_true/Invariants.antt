use Rattle.std.proofs.Common.{length}
use Rattle.spec_cases.proofs.arena.Formulas.+may_be_true.Given as goal

abbrev pub decreases-may_be_true : goal.decreases-may_be_true
decreases-may_be_true l = length l.cases.now
