use Rattle.std.proofs.Common.{length}
use Rattle.spec_cases.proofs.arena.Formulas.+fitted_each.Given as goal

abbrev pub decreases-fitted_each : goal.decreases-fitted_each
decreases-fitted_each l = length l.cases.now
