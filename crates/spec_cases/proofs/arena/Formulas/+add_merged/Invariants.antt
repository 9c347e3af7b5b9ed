use Rattle.std.proofs.Common.{length}
use Rattle.spec_cases.proofs.arena.Formulas.+add_merged.Given as goal

abbrev pub decreases-add_merged : goal.decreases-add_merged
decreases-add_merged l = length l.cases.now
