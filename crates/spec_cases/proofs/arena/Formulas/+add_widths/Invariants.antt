use Rattle.std.proofs.Common.{length}
use Rattle.spec_cases.proofs.arena.Formulas.+add_widths.Given as goal

abbrev pub decreases-add_widths : goal.decreases-add_widths
decreases-add_widths l = length l.widths.now
