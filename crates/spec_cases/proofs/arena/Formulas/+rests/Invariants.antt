use Rattle.std.proofs.Common.{length}
use Rattle.spec_cases.proofs.arena.Formulas.+rests.Given as goal

abbrev pub decreases-rests : goal.decreases-rests
decreases-rests g l = length l.parts.now
