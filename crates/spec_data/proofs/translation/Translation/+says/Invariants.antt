use Rattle.std.proofs.Common.{◌+◌, ◌*◌}
use Rattle.spec_data.proofs.translation.Translation.+says.Given as goal

abbrev pub decreases-says : goal.decreases-says
decreases-says l = 8 * l.fuel

abbrev pub decreases-says_apart : goal.decreases-says_apart
decreases-says_apart l = 8 * l.fuel + 1

abbrev pub decreases-says_as : goal.decreases-says_as
decreases-says_as l = 8 * l.fuel + 1

abbrev pub decreases-says_name : goal.decreases-says_name
decreases-says_name l = 8 * l.fuel + 2

abbrev pub decreases-says_list : goal.decreases-says_list
decreases-says_list l = 8 * l.fuel

abbrev pub decreases-says_operator : goal.decreases-says_operator
decreases-says_operator l = 8 * l.fuel + 2

abbrev pub decreases-says_each : goal.decreases-says_each
decreases-says_each l = 8 * l.fuel + 1

abbrev pub decreases-says_if : goal.decreases-says_if
decreases-says_if l = 8 * l.fuel + 1

abbrev pub decreases-says_called : goal.decreases-says_called
decreases-says_called l = 8 * l.fuel + 2

abbrev pub decreases-says_macro : goal.decreases-says_macro
decreases-says_macro l = 8 * l.fuel + 1

abbrev pub decreases-says_let : goal.decreases-says_let
decreases-says_let l = 8 * l.fuel

abbrev pub decreases-says_definition : goal.decreases-says_definition
decreases-says_definition l = 8 * l.fuel + 1

abbrev pub decreases-says_cases : goal.decreases-says_cases
decreases-says_cases l = 8 * l.fuel

abbrev pub decreases-says_switch : goal.decreases-says_switch
decreases-says_switch l = 8 * l.fuel + 4

abbrev pub decreases-says_bound_switch : goal.decreases-says_bound_switch
decreases-says_bound_switch l = 8 * l.fuel + 4

abbrev pub decreases-says_keys : goal.decreases-says_keys
decreases-says_keys l = 8 * l.fuel + 3

abbrev pub decreases-says_case : goal.decreases-says_case
decreases-says_case l = 8 * l.fuel + 2

abbrev pub decreases-says_key : goal.decreases-says_key
decreases-says_key l = 8 * l.fuel + 1

abbrev pub decreases-says_match : goal.decreases-says_match
decreases-says_match l = 8 * l.fuel + 4

abbrev pub decreases-says_arm : goal.decreases-says_arm
decreases-says_arm l = 8 * l.fuel + 3

abbrev pub decreases-says_field : goal.decreases-says_field
decreases-says_field l = 8 * l.fuel + 1

abbrev pub decreases-says_converted : goal.decreases-says_converted
decreases-says_converted l = 8 * l.fuel + 1

abbrev pub decreases-says_equal : goal.decreases-says_equal
decreases-says_equal l = 8 * l.fuel + 1

abbrev pub decreases-says_arm_body : goal.decreases-says_arm_body
decreases-says_arm_body l = 8 * l.fuel
