use Rattle.std.proofs.Common.{length}
use Rattle.spec_cases.proofs.arena.Formulas.+asked_each.Given as goal

abbrev pub decreases-asked_each : goal.decreases-asked_each
decreases-asked_each l = length l.cases.now
