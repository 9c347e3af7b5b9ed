use Rattle.std.proofs.Common.{length}
use Rattle.spec_cases.proofs.arena.Formulas.+is_true.Given as goal

abbrev pub decreases-is_true : goal.decreases-is_true
decreases-is_true l = length l.cases.now
