use Rattle.std.proofs.Common.{length}
use Rattle.spec_cases.proofs.arena.Formulas.+chosen_each.Given as goal

abbrev pub decreases-chosen_each : goal.decreases-chosen_each
decreases-chosen_each l = length l.cases.now
