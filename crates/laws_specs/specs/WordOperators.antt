-- Operators on words, as SMT-LIB has them: a word of some width is a number below 2 to the width.
use Rattle.std.specs.Prelude.{ℕ, zero, suc, ℤ, pos, negsuc, ◌+◌, ◌*◌, ◌-◌, ◌^◌, ◌/◌, ◌%◌, Bool, not, if◌then◌else◌, nat_lt}
use Rattle.std.proofs.Math.Bool.{beq}

abbrev pub all_ones : ℕ → ℕ
all_ones width = 2 ^ width - 1

-- an integer modulo a number, from 0 up
abbrev pub residue : ℕ → ℤ → ℕ
residue m (pos n) = n % m
residue m (negsuc n) = (m - suc (n % m)) % m

-- an integer modulo 2 to a width
abbrev pub word_of : ℕ → ℤ → ℕ
word_of width z = residue (2 ^ width) z

-- the highest bit is set
abbrev pub is_negative : ℕ → ℕ → Bool
is_negative width n = not (nat_lt n (2 ^ (width - 1)))

-- the integer that a word is in two's complement
abbrev pub negative : ℕ → ℤ
negative zero = pos 0
negative (suc n) = negsuc n

abbrev pub signed : ℕ → ℕ → ℤ
signed width n = if is_negative width n then negative (2 ^ width - n) else pos n

abbrev pub negated : ℕ → ℕ → ℕ
negated width n = (2 ^ width - n) % (2 ^ width)

-- by zero all bits are set
abbrev pub quotient : ℕ → ℕ → ℕ → ℕ
quotient width a zero = all_ones width
quotient width a (suc b) = a / suc b

-- by zero the number itself
abbrev pub remainder : ℕ → ℕ → ℕ
remainder a zero = a
remainder a (suc b) = a % suc b

-- the word without its sign, and with one
abbrev pub magnitude : ℕ → ℕ → ℕ
magnitude width n = if is_negative width n then negated width n else n

abbrev pub with_sign : ℕ → Bool → ℕ → ℕ
with_sign width b n = if b then negated width n else n

-- towards zero; a remainder has the sign of what is divided
abbrev pub quotient_by_signs : ℕ → ℕ → ℕ → ℕ
quotient_by_signs width a b = with_sign width (not (beq (is_negative width a) (is_negative width b))) (quotient width (magnitude width a) (magnitude width b))

abbrev pub remainder_by_signs : ℕ → ℕ → ℕ → ℕ
remainder_by_signs width a b = with_sign width (is_negative width a) (remainder (magnitude width a) (magnitude width b))

-- by as many places as there are bits, or more, nothing is left
abbrev pub left_by : ℕ → ℕ → ℕ → ℕ
left_by width a b = if nat_lt b width then (a * 2 ^ b) % (2 ^ width) else 0

abbrev pub right_by : ℕ → ℕ → ℕ → ℕ
right_by width a b = if nat_lt b width then a / 2 ^ b else 0

-- the sign comes in from above
abbrev pub right_by_sign : ℕ → ℕ → ℕ → ℕ
right_by_sign width a b = if is_negative width a then all_ones width - right_by width (all_ones width - a) b else right_by width a b

-- to the left by fewer places than there are bits
abbrev pub turned : ℕ → ℕ → ℕ → ℕ
turned width a places = (a * 2 ^ places) % (2 ^ width) + a / 2 ^ (width - places)

-- to the right by such is to the left by the others
abbrev pub turned_back : ℕ → ℕ → ℕ → ℕ
turned_back width a places = turned width a ((width - places) % width)
