-- What tests one after another give.
use Rattle.std.proofs.Common.{◌≡◌, ℕ, ◌<◌, ◌≤◌, arith}
use Rattle.std.specs.Prelude.{Bool, true, false, ◌&&◌, nat_lt}
use Rattle.std.proofs.lemmas.Bool.Decides.{nat_tests}
use Rattle.std.proofs.lemmas.Grind.{common_steps}

pub last_of_two : (a b r : Bool) → a ≡ true → r ≡ b → r ≡ (a && b)
last_of_two a b r e f = rw e f

pub last_of_three : (a b c r : Bool) → a ≡ true → b ≡ true → r ≡ c → r ≡ (a && b && c)
last_of_three a b c r d e f = rw (d, e) f

pub first_fails : (a b c r : Bool) → a ≡ false → r ≡ false → r ≡ (a && b && c)
first_fails a b c r d e = rw d e

pub second_fails : (a b c r : Bool) → b ≡ false → r ≡ false → r ≡ (a && b && c)
second_fails a b c r d e = grind (arith, common_steps)

pub more_than : (k room : ℕ) → k < room → nat_lt k room ≡ true
more_than k room h = grind (arith, nat_tests, h)

pub no_more_than : (k room : ℕ) → room ≤ k → nat_lt k room ≡ false
no_more_than k room h = grind (arith, nat_tests, h)
