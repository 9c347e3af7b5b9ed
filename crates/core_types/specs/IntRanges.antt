-- The built-in integer types among the types of the model, and how many bits each has.
use Rattle.std.specs.Prelude.{◌≡◌, ℕ, option_map, Some}
use Rattle.model.specs.lists.Ranges.{range_of}
use Rattle.model.specs.lists.Tables.{TypeEntry, builtin_type}
use Rattle.core_types.specs.declared.builtin.BuiltinType.TheVariants.{Int}
use Rattle.core_types.specs.declared.builtin.IntType.{IntType}
use Rattle.core_types.specs.Builtin.{builtin_place}

abbrev pub int_type : IntType → TypeEntry
int_type ty = builtin_type (builtin_place (Int ty))

-- the range of the type has as many numbers as there are words of so many bits
abbrev pub HasBits : IntType → ℕ → Type 0
HasBits ty n = option_map (λ r. r.bits) (range_of (Some (int_type ty))) ≡ Some n
