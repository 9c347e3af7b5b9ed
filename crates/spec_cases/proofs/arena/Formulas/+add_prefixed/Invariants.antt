use Rattle.std.proofs.Common.{length}
use Rattle.spec_cases.proofs.arena.Formulas.+add_prefixed.Given as goal

abbrev pub decreases-add_prefixed : goal.decreases-add_prefixed
decreases-add_prefixed l = length l.cases.now
