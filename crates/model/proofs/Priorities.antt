-- Priorities, by the test that compares them.
use Rattle.std.proofs.Common.{◌≡◌, ℤ, true, false, arith, is_lt, Ordering, ◌≤ℤ◌, ◌<ℤ◌}
use Rattle.std.proofs.lemmas.Grind.{common_steps}
use Rattle.std.proofs.lemmas.Bool.{both_ways}
use Rattle.std.proofs.lemmas.Int.{ints}
use Rattle.std.specs.Ordering.{MatchOrdering}

pub at_most : (x y : ℤ) (o : Ordering) → MatchOrdering o (x <ℤ y) (x ≡ y) (y <ℤ x) → is_lt o ≡ true → x ≤ℤ y
at_most x y o h e = grind (arith, common_steps, ints)

pub at_least : (x y : ℤ) (o : Ordering) → MatchOrdering o (x <ℤ y) (x ≡ y) (y <ℤ x) → is_lt o ≡ false → y ≤ℤ x
at_least x y o h e = grind (arith, common_steps, both_ways, ints)
