use Rattle.std.proofs.Common.{length}
use Rattle.spec_cases.proofs.arena.Formulas.+each_size.Given as goal

abbrev pub decreases-each_size : goal.decreases-each_size
decreases-each_size l = length l.widths.now
