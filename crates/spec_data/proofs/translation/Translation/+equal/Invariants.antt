use Rattle.std.proofs.Common.{◌+◌, ◌*◌}
use Rattle.spec_data.proofs.translation.Translation.+equal.Given as goal

abbrev pub decreases-equal : goal.decreases-equal
decreases-equal l = 8 * l.depth + 1

abbrev pub decreases-equal_made : goal.decreases-equal_made
decreases-equal_made l = 8 * l.depth

abbrev pub decreases-equal_variants : goal.decreases-equal_variants
decreases-equal_variants l = 8 * l.depth + 5

abbrev pub decreases-equal_variant : goal.decreases-equal_variant
decreases-equal_variant l = 8 * l.depth + 4

abbrev pub decreases-equal_structs : goal.decreases-equal_structs
decreases-equal_structs l = 8 * l.depth + 4

abbrev pub decreases-equal_fields : goal.decreases-equal_fields
decreases-equal_fields l = 8 * l.depth + 3

abbrev pub decreases-equal_field : goal.decreases-equal_field
decreases-equal_field l = 8 * l.depth + 2
