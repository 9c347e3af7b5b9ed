-- What reducing a number to a range gives.
use Rattle.std.specs.Prelude.{◌≡◌, ◌↔◌, ℤ}
use Rattle.model.specs.lists.Ranges.{Range, size, IsInRange, DifferByMultiple, reduce}

-- a number of the range
abbrev pub ReducedNumbersAreInRange : Type 0
ReducedNumbersAreInRange = (r : Range) (z : ℤ) → IsInRange r (reduce r z)

-- the number itself, where it is one of the range
abbrev pub NumbersInRangeStay : Type 0
NumbersInRangeStay = (r : Range) (z : ℤ) → IsInRange r z → reduce r z ≡ z

-- it differs by a multiple of the range's size, and no other number of the range does
abbrev pub ReducedNumbersDifferByMultiples : Type 0
ReducedNumbersDifferByMultiples = (r : Range) (z : ℤ) → DifferByMultiple (size r) z (reduce r z)

abbrev pub OneOfTheRangeDiffersByAMultiple : Type 0
OneOfTheRangeDiffersByAMultiple = (r : Range) (z x : ℤ) → IsInRange r x → DifferByMultiple (size r) z x → reduce r z ≡ x

-- so once is enough
abbrev pub ReducingTwiceIsReducing : Type 0
ReducingTwiceIsReducing = (r : Range) (z : ℤ) → reduce r (reduce r z) ≡ reduce r z

-- two numbers the same exactly where they differ by a multiple of the range's size
abbrev pub ReducedAlikeByMultiples : Type 0
ReducedAlikeByMultiples = (r : Range) (a b : ℤ) → (reduce r a ≡ reduce r b) ↔ DifferByMultiple (size r) a b
