use Rattle.std.proofs.Common.{◌+◌, ◌*◌}
use Rattle.app_conditions.proofs.told.Teller.+value.Given as goal

abbrev pub decreases-push_value : goal.decreases-push_value
decreases-push_value l = 3 * l.fuel + 2

abbrev pub decreases-push_variant : goal.decreases-push_variant
decreases-push_variant l = 3 * l.fuel + 1

abbrev pub decreases-push_fields : goal.decreases-push_fields
decreases-push_fields l = 3 * l.fuel
