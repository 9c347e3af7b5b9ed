use Rattle.std.proofs.Common.{length}
use Rattle.spec_cases.proofs.arena.Formulas.+answered_each.Given as goal

abbrev pub decreases-answered_each : goal.decreases-answered_each
decreases-answered_each l = length l.cases.now
