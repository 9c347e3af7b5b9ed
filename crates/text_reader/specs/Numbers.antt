-- The number that a word is.
use Rattle.std.specs.Prelude.{ℕ, ◌+◌, ◌*◌, ◌^◌, Bool, true, false, not, ◌&&◌, ◌||◌, nat_lt, nat_le, List, [], ◌∷◌, drop, slice_index, Result, Ok, Err, if◌then◌else◌, ◌==◌, ℤ, pos, neg_ℤ}
use Rattle.std.specs.Int.{cast_signed, w128}
use Rattle.std.specs.Char.{digit_value}
use Rattle.std.specs.List.{list_all, list_any}
use Rattle.text_reader.specs.declared.errors.Mistake.{Mistake}
use Rattle.text_reader.specs.declared.errors.Mistake.TheVariants.{Digits, NumberRange}

-- `_` or a digit of a base
abbrev pub is_underscore_or_digit : ℕ → ℕ → Bool
is_underscore_or_digit radix b = b == 95 || nat_lt (digit_value b) radix

-- digits of a base, at least one, and `_` anywhere
abbrev pub are_digits : ℕ → List ℕ → Bool
are_digits radix bs = list_all (is_underscore_or_digit radix) bs && list_any (λ b. not (b == 95)) bs

-- a number with one more digit
abbrev pub grown : ℕ → ℕ → ℕ → ℕ
grown radix n b = if b == 95 then n else n * radix + digit_value b

-- the number that digits spell, after those that spell n
abbrev pub digits_after : ℕ → ℕ → List ℕ → ℕ
digits_after radix n [] = n
digits_after radix n (b ∷ bs) = digits_after radix (grown radix n b) bs

-- `0` and a letter, small or capital
abbrev pub has_mark : (small capital : ℕ) → List ℕ → Bool
has_mark small capital w = slice_index w 0 == 48 && (slice_index w 1 == small || slice_index w 1 == capital)

-- the base that digits are in, and the digits without its mark
abbrev pub radix_of : List ℕ → ℕ × List ℕ
radix_of w =
    if has_mark 120 88 w then (16, drop 2 w)
    else if has_mark 111 79 w then (8, drop 2 w)
    else if has_mark 98 66 w then (2, drop 2 w)
    else (10, w)

-- the number of a size and a sign; past 2^127 - 1 the one with the same 128 bits
abbrev pub sized : Bool → ℕ → Result ℤ Mistake
sized is_negative size =
    if is_negative then (if nat_le size (2 ^ 127) then Ok (neg_ℤ (pos size)) else Err NumberRange)
    else if nat_lt size (2 ^ 128) then Ok (cast_signed w128 size) else Err NumberRange

abbrev pub unsigned_number : Bool → ℕ × List ℕ → Result ℤ Mistake
unsigned_number is_negative d = if are_digits d.0 d.1 then sized is_negative (digits_after d.0 0 d.1) else Err Digits

unfoldable pub number_of : List ℕ → Result ℤ Mistake
number_of w = if slice_index w 0 == 45 then unsigned_number true (radix_of (drop 1 w)) else unsigned_number false (radix_of w)
