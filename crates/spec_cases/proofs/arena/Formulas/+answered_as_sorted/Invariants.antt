use Rattle.std.proofs.Common.{length}
use Rattle.spec_cases.proofs.arena.Formulas.+answered_as_sorted.Given as goal

abbrev pub decreases-answered_as_sorted : goal.decreases-answered_as_sorted
decreases-answered_as_sorted l = length l.functions.now
