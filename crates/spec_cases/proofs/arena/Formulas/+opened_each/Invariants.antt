use Rattle.std.proofs.Common.{length}
use Rattle.spec_cases.proofs.arena.Formulas.+opened_each.Given as goal

abbrev pub decreases-opened_each : goal.decreases-opened_each
decreases-opened_each l = length l.forms.now
