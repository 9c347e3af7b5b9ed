use Rattle.std.proofs.Common.{◌+◌, ◌*◌}
use Rattle.spec_calls.proofs.makers.Maker.+typing.Given as goal

abbrev pub decreases-check_fields : goal.decreases-check_fields
decreases-check_fields l = 4 * l.fuel

abbrev pub decreases-check_own : goal.decreases-check_own
decreases-check_own l = 4 * l.fuel + 1

abbrev pub decreases-check_type : goal.decreases-check_type
decreases-check_type l = 4 * l.fuel + 2

abbrev pub decreases-check_types : goal.decreases-check_types
decreases-check_types l = 4 * l.fuel + 3
