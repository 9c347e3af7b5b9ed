use Rattle.std.proofs.Common.{length}
use Rattle.spec_cases.proofs.arena.Formulas.+paired_each.Given as goal

abbrev pub decreases-paired_each : goal.decreases-paired_each
decreases-paired_each l = length l.cases.now
