use Rattle.std.proofs.Common.{◌+◌, ◌*◌}
use Rattle.spec_steps.proofs.splitting.+below.Given as goal

abbrev pub decreases-is_below : goal.decreases-is_below
decreases-is_below l = l.place.0 * 2 + 1

abbrev pub decreases-is_layer_below : goal.decreases-is_layer_below
decreases-is_layer_below l = l.limit.0 * 2
