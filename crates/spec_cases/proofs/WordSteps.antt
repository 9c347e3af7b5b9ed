-- Numbers of words.
use Rattle.std.proofs.lemmas.Int.{ints}
use Rattle.std.proofs.Common.{◌<ℤ◌, ◌≤ℤ◌, neg_ℤ, unsigned_abs, add-one, ◌≡◌, ◌≢◌, ℕ, zero, suc, ◌+◌, ◌-◌, ◌/◌, ◌%◌, ℤ, pos, negsuc, refl, arith}
use Rattle.laws_specs.specs.WordOperators as W

pub quotient_other : (w a b : ℕ) → b ≢ 0 → W.quotient w a b ≡ a / b
quotient_other w a zero h = absurd (h refl)
quotient_other w a (suc b) h = refl

pub remainder_other : (a b : ℕ) → b ≢ 0 → W.remainder a b ≡ a % b
remainder_other a zero h = absurd (h refl)
remainder_other a (suc b) h = refl

-- of no bits nothing is turned
pub turned_none : (a p : ℕ) → W.turned 0 a p ≡ a
turned_none a p = grind arith

-- an integer below 0, by its size
pub residue_below : (m : ℕ) (z : ℤ) → z <ℤ pos 0 → W.residue m z ≡ (m - ((unsigned_abs z - 1) % m + 1)) % m
residue_below m (pos n) h = absurd (omega (arith, ints))
residue_below m (negsuc n) h = grind (arith, add-one)

pub residue_above : (m : ℕ) (z : ℤ) → pos 0 ≤ℤ z → W.residue m z ≡ unsigned_abs z % m
residue_above m (pos n) h = refl
residue_above m (negsuc n) h = absurd (omega (arith, ints))

pub ruleset residue_steps = (residue_below, residue_above)

pub negative_is : (n : ℕ) → W.negative n ≡ neg_ℤ (pos n)
negative_is zero = refl
negative_is (suc n) = refl
