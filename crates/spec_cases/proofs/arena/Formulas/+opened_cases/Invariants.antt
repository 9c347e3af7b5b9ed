use Rattle.std.proofs.Common.{length}
use Rattle.spec_cases.proofs.arena.Formulas.+opened_cases.Given as goal

abbrev pub decreases-opened_cases : goal.decreases-opened_cases
decreases-opened_cases l = length l.cases.now
