use Rattle.std.proofs.Common.{length}
use Rattle.spec_cases.proofs.arena.Formulas.+operated_each.Given as goal

abbrev pub decreases-operated_each : goal.decreases-operated_each
decreases-operated_each l = length l.cases.now
