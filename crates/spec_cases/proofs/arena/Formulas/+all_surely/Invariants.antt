use Rattle.std.proofs.Common.{length}
use Rattle.spec_cases.proofs.arena.Formulas.+all_surely.Given as goal

abbrev pub decreases-all_surely : goal.decreases-all_surely
decreases-all_surely l = length l.saids.now
