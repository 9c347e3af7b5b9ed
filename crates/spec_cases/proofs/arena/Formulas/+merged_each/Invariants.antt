use Rattle.std.proofs.Common.{length}
use Rattle.spec_cases.proofs.arena.Formulas.+merged_each.Given as goal

abbrev pub decreases-merged_each : goal.decreases-merged_each
decreases-merged_each l = length l.cases.now
