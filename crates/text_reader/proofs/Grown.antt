-- Numbers grow by each digit.
use Rattle.std.proofs.Common.{◌≡◌, ◌≤◌, ◌<◌, ℕ, ◌+◌, ◌*◌, List, [], ◌∷◌, arith, drop, get_or, length}
use Rattle.std.proofs.lemmas.List.{drop_more}
use Rattle.std.proofs.lemmas.Grind.{common_steps}
use Rattle.text_reader.specs.Numbers.{digits_after, grown}

times : (radix n d : ℕ) → 2 ≤ radix → n ≤ n * radix + d
times radix n d r = grind (arith, common_steps)

grows : (radix n b : ℕ) → 2 ≤ radix → n ≤ grown radix n b
grows radix n b r = grind (arith, common_steps, times)

pub digits_grow : (radix n : ℕ) (bs : List ℕ) → 2 ≤ radix → n ≤ digits_after radix n bs
digits_grow radix n [] r = omega arith
digits_grow radix n (b ∷ bs) r = omega (arith, grows radix n b r, digits_grow radix (grown radix n b) bs r)

pub one_digit : (radix n : ℕ) (bs : List ℕ) (i : ℕ) → i < length bs → digits_after radix n (drop i bs) ≡ digits_after radix (grown radix n (get_or bs i 0)) (drop (i + 1) bs)
one_digit radix n bs i l = rw (drop_more bs i 0 l)

pub ruleset grown_parts = (digits_grow, one_digit)
