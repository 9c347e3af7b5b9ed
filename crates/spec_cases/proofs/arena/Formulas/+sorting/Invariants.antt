use Rattle.std.proofs.Common.{◌+◌, ◌*◌, length}
use Rattle.spec_cases.proofs.arena.Formulas.+sorting.Given as goal

abbrev pub decreases-are_operands_of : goal.decreases-are_operands_of
decreases-are_operands_of l = 2 * length l.sorts.now

abbrev pub decreases-are_more_of : goal.decreases-are_more_of
decreases-are_more_of l = 2 * length l.more.now + 1
