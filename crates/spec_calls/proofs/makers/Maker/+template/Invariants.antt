use Rattle.std.proofs.Common.{◌+◌, ◌*◌}
use Rattle.spec_calls.proofs.makers.Maker.+template.Given as goal

abbrev pub decreases-taken_apart : goal.decreases-taken_apart
decreases-taken_apart l = 4 * l.fuel + 1

abbrev pub decreases-is_met : goal.decreases-is_met
decreases-is_met l = 4 * l.fuel

abbrev pub decreases-all_met : goal.decreases-all_met
decreases-all_met l = 4 * l.fuel + 1

abbrev pub decreases-are_met : goal.decreases-are_met
decreases-are_met l = 4 * l.fuel + 1

abbrev pub decreases-parts_of : goal.decreases-parts_of
decreases-parts_of l = 4 * l.fuel + 2
