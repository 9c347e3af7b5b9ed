-- What operators give of two words, and of a width.
use Rattle.std.specs.Prelude.{ℕ, ℤ, pos, ◌+◌, ◌-◌, ◌*◌, ◌/◌, ◌%◌, ◌^◌, Bool, not, ◌&&◌, nat_lt, int_lt, bit_and, bit_or, bit_xor, Option, Some, None}
use Rattle.std.specs.Bool.{◌==◌}
use Rattle.laws_specs.specs.WordOperators as W
use Rattle.laws_specs.specs.Words as D
use Rattle.spec_cases.specs.declared.computing.Calculation.{Calculation}
use Rattle.spec_cases.specs.declared.computing.Calculation.TheVariants as C
use Rattle.spec_cases.specs.declared.computing.Test.{Test}
use Rattle.spec_cases.specs.declared.computing.Test.TheVariants as T
use Rattle.spec_cases.specs.declared.computing.OfWords.{OfWords}
use Rattle.spec_cases.specs.declared.computing.OfWords.TheVariants as K

abbrev pub calculated : Calculation → ℕ → ℕ → ℕ → ℕ
calculated C.Plus w a b = (a + b) % (2 ^ w)
calculated C.Minus w a b = ((a + 2 ^ w) - b) % (2 ^ w)
calculated C.Times w a b = (a * b) % (2 ^ w)
calculated C.Quotient w a b = W.quotient w a b
calculated C.Remainder w a b = W.remainder a b
calculated C.SignedQuotient w a b = W.quotient_by_signs w a b
calculated C.SignedRemainder w a b = W.remainder_by_signs w a b
calculated C.And w a b = bit_and a b
calculated C.Or w a b = bit_or a b
calculated C.Xor w a b = bit_xor a b
calculated C.ShiftedLeft w a b = W.left_by w a b
calculated C.ShiftedRight w a b = W.right_by w a b
calculated C.ShiftedRightSigned w a b = W.right_by_sign w a b
calculated C.RotatedLeft w a b = W.turned w a (b % w)
calculated C.RotatedRight w a b = W.turned_back w a (b % w)

abbrev pub is_test : Test → ℕ → ℕ → ℕ → Bool
is_test T.Equal w a b = a == b
is_test T.Less w a b = nat_lt a b
is_test T.LessOrEqual w a b = not (nat_lt b a)
is_test T.SignedLess w a b = int_lt (W.signed w a) (W.signed w b)
is_test T.SignedLessOrEqual w a b = not (int_lt (W.signed w b) (W.signed w a))

-- of words of one width, but for words in a row
abbrev pub of_words : OfWords → ℕ → ℕ → ℕ → ℕ → Option D.Denoted
of_words (K.Word c) w a v b = D.of_one_width w v (Some (D.a_word w (calculated c w a b)))
of_words (K.Truth t) w a v b = D.of_one_width w v (Some (D.a_truth (is_test t w a b)))
of_words K.Joined w a v b = Some (D.a_word (w + v) (a * 2 ^ v + b))
of_words K.Nothing w a v b = None

-- a width or a bit's number
abbrev pub size_in : ℤ → Option ℕ
size_in (pos n) = Some n
size_in _ = None

abbrev pub bits_at : ℕ → ℕ → ℕ → ℕ → Option D.Denoted
bits_at high low w a = D.word_in (not (nat_lt high low) && nat_lt high w) ((high + 1) - low) ((a / 2 ^ low) % 2 ^ ((high + 1) - low))

abbrev pub word_of_size : Option ℕ → ℤ → Option D.Denoted
word_of_size None z = None
word_of_size (Some n) z = Some (D.a_word n (W.word_of n z))

abbrev pub widened_size : Option ℕ → ℕ → ℕ → Option D.Denoted
widened_size None w a = None
widened_size (Some n) w a = D.word_in (not (nat_lt n w)) n a

abbrev pub widened_signed_size : Option ℕ → ℕ → ℕ → Option D.Denoted
widened_signed_size None w a = None
widened_signed_size (Some n) w a = D.word_in (not (nat_lt n w)) n (W.word_of n (W.signed w a))

abbrev pub bits_size : Option ℕ → Option ℕ → ℕ → ℕ → Option D.Denoted
bits_size (Some high) (Some low) w a = bits_at high low w a
bits_size _ _ w a = None
