use Rattle.std.proofs.Common.{◌+◌, ◌*◌}
use Rattle.rust_code.proofs.types.+types.Given as goal

abbrev pub decreases-types_within : goal.decreases-types_within
decreases-types_within l = 2 * l.layers

abbrev pub decreases-types_of : goal.decreases-types_of
decreases-types_of l = 2 * l.layers + 1
