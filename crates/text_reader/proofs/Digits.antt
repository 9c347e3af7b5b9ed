-- Digits that are 128 bits at most spell a number of 128 bits.
use Rattle.std.proofs.Common.{◌≡◌, ℕ, zero, suc, ◌+◌, ◌*◌, ◌^◌, ◌<◌, ◌≤◌, List, [], ◌∷◌, length, true, refl, arith}
use Rattle.std.specs.Prelude.{nat_lt}
use Rattle.std.specs.Char.{digit_value}
use Rattle.std.proofs.lemmas.Nat.{pow-add}
use Rattle.std.proofs.lemmas.Bool.{leb-true, and_parts}
use Rattle.std.proofs.lemmas.Bool.Decides.{nat_tests}
use Rattle.std.proofs.Math.Nat.{pow-zero, pow-suc, pow-succ', pow-le-pow_right, mul-le-mul_right, le-mul_of_pos_right}
use Rattle.std.proofs.lemmas.Grind.{common_steps}
use Rattle.text_reader.specs.Numbers.{digits_after, grown}
use Rattle.text_reader.specs.SpecGrammar.{are_digits, are_bits}

one_more : (radix n b : ℕ) → 2 ≤ radix → digit_value b < radix → grown radix n b + 1 ≤ (n + 1) * radix
one_more radix n b two is = grind (arith, common_steps, le-mul_of_pos_right)

below : (radix n : ℕ) (ds : List ℕ) → 2 ≤ radix → are_digits radix ds ≡ true → digits_after radix n ds < (n + 1) * radix ^ length ds
below radix n [] two h = let one : radix ^ 0 ≡ 1 = pow-zero radix in rw one (omega arith)
below radix n (d ∷ ds) two h =
    let k = and_parts (nat_lt (digit_value d) radix) (are_digits radix ds) h in
    let is : digit_value d < radix = grind (arith, nat_tests, k.0) in
    let p = radix ^ length ds in
    let first : digits_after radix (grown radix n d) ds < (grown radix n d + 1) * p = below radix (grown radix n d) ds two k.1 in
    let then : (grown radix n d + 1) * p ≤ ((n + 1) * radix) * p = mul-le-mul_right p (one_more radix n d two is) in
    let whole : radix ^ suc (length ds) ≡ radix * p = pow-succ' radix (length ds) in
    rw whole (omega (arith, first, then))

pub powers : (e k : ℕ) → (2 ^ e) ^ k ≡ 2 ^ (e * k)
powers e zero = let one : (2 ^ e) ^ 0 ≡ 1 = pow-zero (2 ^ e) in let none : e * 0 ≡ 0 = omega arith in rw (one, none) refl
powers e (suc k) = grind (arith, common_steps, powers e k, pow-suc, pow-add)

-- digits that are bits of a base of two to so many
pub bits_fit : (radix each : ℕ) (ds : List ℕ) → 2 ≤ radix → radix ≡ 2 ^ each → are_bits radix each ds ≡ true → digits_after radix 0 ds < 2 ^ 128
bits_fit radix each ds two is h = grind (arith, common_steps, and_parts, leb-true, below, powers, pow-le-pow_right)
