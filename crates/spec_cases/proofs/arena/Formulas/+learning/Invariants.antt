use Rattle.std.proofs.Common.{◌+◌, ◌*◌}
use Rattle.spec_cases.proofs.arena.Formulas.+learning.Given as goal

abbrev pub decreases-learned_below : goal.decreases-learned_below
decreases-learned_below l = l.limit * 2

abbrev pub decreases-learned_made : goal.decreases-learned_made
decreases-learned_made l = l.node.0 * 2 + 1
