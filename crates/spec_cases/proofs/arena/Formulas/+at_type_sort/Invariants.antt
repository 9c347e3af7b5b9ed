use Rattle.std.proofs.Common.{length}
use Rattle.spec_cases.proofs.arena.Formulas.+at_type_sort.Given as goal

abbrev pub decreases-at_type_sort : goal.decreases-at_type_sort
decreases-at_type_sort l = length l.sorts.now
