use Rattle.std.proofs.Common.{length}
use Rattle.spec_cases.proofs.arena.Formulas.+found.Given as goal

abbrev pub decreases-found : goal.decreases-found
decreases-found g l = length l.told.now
