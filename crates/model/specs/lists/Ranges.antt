-- The ranges of the built-in integer types, and the number of its type's range that an integer literal stands for.
use Rattle.std.specs.Prelude.{◌≡◌, ℕ, ◌-◌, ◌*◌, ◌^◌, ℤ, suc, pos, neg_ℤ, ◌+ℤ◌, ◌-ℤ◌, ◌≤ℤ◌, ◌<ℤ◌, Bool, ◌&&◌, List, [], ◌∷◌, Option, Some, None, slice_get, ◌⊎◌}
use Rattle.std.specs.Int.{int_rem_euclid}
use Rattle.std.specs.Ordering.{int_eq}
use Rattle.model.specs.lists.Tables.{TypeEntry, builtin_type}
use Rattle.model.specs.rules.Values.{is_atom_type}

-- as many numbers as there are words of so many bits, from the least one on
pub record Range : Type 0 where
  pub bits : ℕ
  pub least : ℤ

abbrev pub size : Range → ℕ
size r = 2 ^ r.bits

-- from 0 on
abbrev pub unsigned : ℕ → Range
unsigned bits = record { bits = bits; least = pos 0 }

-- half of them negative
abbrev pub signed : ℕ → Range
signed bits = record { bits = bits; least = neg_ℤ (pos (2 ^ (bits - 1))) }

-- the ranges of u8, u16, u32, u64, u128 and usize, then of i8 to isize. A number of u128 is written as the one of i128
-- with the same bits
abbrev pub int_ranges : List Range
int_ranges = unsigned 8 ∷ unsigned 16 ∷ unsigned 32 ∷ unsigned 64 ∷ signed 128 ∷ unsigned 64 ∷ signed 8 ∷ signed 16 ∷ signed 32 ∷ signed 64 ∷ signed 128 ∷ signed 64 ∷ []

abbrev pub IsInRange : Range → ℤ → Type 0
IsInRange r z = (r.least ≤ℤ z) × (z <ℤ (r.least +ℤ pos (size r)))

-- one of the two is the other and so many times n
abbrev pub DifferByMultiple : ℕ → ℤ → ℤ → Type 0
DifferByMultiple n a b = (k : ℕ) × ((a ≡ b +ℤ pos (k * n)) ⊎ (b ≡ a +ℤ pos (k * n)))

-- the number of a range that differs from another by a multiple of the range's size
abbrev pub reduce : Range → ℤ → ℤ
reduce r z = r.least +ℤ int_rem_euclid (z -ℤ r.least) (pos (size r))

-- the range of a built-in integer type: these stand behind `bool`
abbrev pub range_of : Option TypeEntry → Option Range
range_of (Some (builtin_type (suc place))) = slice_get int_ranges place
range_of _ = None

abbrev pub reduce_where : Option Range → ℤ → ℤ
reduce_where None z = z
reduce_where (Some r) z = reduce r z

-- what a literal of a type stands for: at a primitive type the number that is written
abbrev pub reduced : Option TypeEntry → ℤ → ℤ
reduced ty z = reduce_where (range_of ty) z

-- a literal of a type: it has integer literals, and the number is one of the type's range, where it has one
abbrev pub is_literal_of : Option TypeEntry → ℤ → Bool
is_literal_of ty z = is_atom_type ty && int_eq (reduced ty z) z
