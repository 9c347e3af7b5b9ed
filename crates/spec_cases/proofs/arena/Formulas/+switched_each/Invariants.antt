use Rattle.std.proofs.Common.{length}
use Rattle.spec_cases.proofs.arena.Formulas.+switched_each.Given as goal

abbrev pub decreases-switched_each : goal.decreases-switched_each
decreases-switched_each l = length l.cases.now
