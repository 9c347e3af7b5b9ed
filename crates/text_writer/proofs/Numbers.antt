-- The token of a number that is written.
use Rattle.std.proofs.Common.{◌≡◌, ℕ, zero, suc, ◌+◌, ◌*◌, ◌<◌, refl, List, [], ◌∷◌, length, arith}
use Rattle.std.specs.Prelude.{ℤ, pos, negsuc, ◌^◌, Bool, true, false, ◌==◌, nat_lt, Ok, slice_index}
use Rattle.std.specs.List.{list_all}
use Rattle.std.specs.Char.{digit_value}
use Rattle.std.specs.Fmt.{decimal, signed_decimal}
use Rattle.std.specs.Str.{IsAscii}
use Rattle.std.specs.Str.Parse.{AllDigits, digits_value_after, digits_value}
use Rattle.std.proofs.lemmas.Bool.Decides.{nat_tests}
use Rattle.std.proofs.lemmas.Int.{to_z_pos}
use Rattle.std.proofs.lemmas.Fmt.{decimal_is_IsNumeral_wide, IsAscii-decimal_wide}
use Rattle.std.proofs.lemmas.Str.Parse.{digit_from_value}
use Rattle.std.proofs.lemmas.Grind.{common_steps}
use Rattle.model.specs.lists.Syntax.{Position}
use Rattle.text_reader.specs.Pieces.{is_in_word}
use Rattle.text_reader.specs.Numbers.{is_underscore_or_digit, digits_after, has_mark, radix_of, sized, unsigned_number, number_of}
use Rattle.text_reader.specs.Lexemes.{number, begins_number, word_token}
use Rattle.text_writer.specs.Spellable.{is_signed_128, is_some_text}

-- ---- digits

digit_in_word : (c : ℕ) → digit_value c < 10 → is_in_word c ≡ true
digit_in_word c h = grind (arith, common_steps, digit_from_value)

digit_no_underscore : (c : ℕ) → digit_value c < 10 → (c == 95) ≡ false
digit_no_underscore c h = let range = digit_from_value c h in grind (arith, nat_tests, range.1)

digit_test : (c : ℕ) → digit_value c < 10 → nat_lt (digit_value c) 10 ≡ true
digit_test c h = grind (arith, nat_tests, h)

digits_in_word : (ds : List ℕ) → AllDigits 10 ds → list_all is_in_word ds ≡ true
digits_in_word [] h = refl
digits_in_word (c ∷ cs) h = rw (digit_in_word c h.0, digits_in_word cs h.1) refl

-- ---- how digits are read

each_digit : (ds : List ℕ) → AllDigits 10 ds → list_all (is_underscore_or_digit 10) ds ≡ true
each_digit [] h = refl
each_digit (c ∷ cs) h = rw (digit_no_underscore c h.0, digit_test c h.0) (each_digit cs h.1)

digits_same : (n : ℕ) (ds : List ℕ) → AllDigits 10 ds → digits_after 10 n ds ≡ digits_value_after 10 n ds
digits_same n [] h = refl
digits_same n (c ∷ cs) h = rw (digit_no_underscore c h.0) (digits_same (n * 10 + digit_value c) cs h.1)

second_no_mark : (c : ℕ) (cs : List ℕ) (small capital : ℕ) → AllDigits 10 (c ∷ cs) → 57 < small → 57 < capital → has_mark small capital (c ∷ cs) ≡ false
second_no_mark c cs small capital h s k = grind (arith, common_steps)

digits_number : (is_negative : Bool) (ds : List ℕ) → 0 < length ds → AllDigits 10 ds → unsigned_number is_negative (radix_of ds) ≡ sized is_negative (digits_value 10 ds)
digits_number is_negative ds some h = grind (arith, common_steps, digits_same, digit_no_underscore, digit_test, each_digit, second_no_mark)

-- ---- a number below 2^127, and one above -2^127

pos_small : (n : ℕ) → is_signed_128 (pos n) ≡ true → n < 2 ^ 127
unfolding is_signed_128
pos_small n h = grind (arith, nat_tests, h)

neg_small : (n : ℕ) → is_signed_128 (negsuc n) ≡ true → n < 2 ^ 127
unfolding is_signed_128
neg_small n h = grind (arith, nat_tests, h)

pos_sized : (n : ℕ) → n < 2 ^ 127 → sized false n ≡ Ok (pos n)
pos_sized n h = grind (arith, common_steps, nat_tests, to_z_pos)

neg_sized : (n : ℕ) → n < 2 ^ 127 → sized true (suc n) ≡ Ok (negsuc n)
neg_sized n h = grind (arith, common_steps, nat_tests)

first_no_dash : (ds : List ℕ) → 0 < length ds → AllDigits 10 ds → (slice_index ds 0 == 45) ≡ false
first_no_dash ds some h = grind (arith, common_steps)

number_read : (z : ℤ) → is_signed_128 z ≡ true → number_of (signed_decimal z) ≡ Ok z
unfolding number_of
number_read (pos n) h =
    let k = pos_small n h in
    let ds = decimal_is_IsNumeral_wide n (omega (arith, k)) in
    rw (first_no_dash (decimal n) ds.0.0 ds.0.1, digits_number false (decimal n) ds.0.0 ds.0.1, ds.1) (pos_sized n k)
number_read (negsuc n) h =
    let k = neg_small n h in
    let ds = decimal_is_IsNumeral_wide (suc n) (omega (arith, k)) in
    rw (digits_number true (decimal (suc n)) ds.0.0 ds.0.1, ds.1) (neg_sized n k)

pub begins_as_number : (z : ℤ) → is_signed_128 z ≡ true → begins_number (signed_decimal z) ≡ true
begins_as_number (pos n) h =
    let k = pos_small n h in
    let ds = decimal_is_IsNumeral_wide n (omega (arith, k)) in
    rw (first_no_dash (decimal n) ds.0.0 ds.0.1) (grind (arith, common_steps))
begins_as_number (negsuc n) h =
    let k = neg_small n h in
    let ds = decimal_is_IsNumeral_wide (suc n) (omega (arith, k)) in
    grind (arith, common_steps)

pub number_token : (z : ℤ) (at : Position) → is_signed_128 z ≡ true → word_token (record { text = signed_decimal z; at = at }) ≡ Ok (number z at)
unfolding word_token
number_token z at h = rw (begins_as_number z h, number_read z h) refl

-- ---- its characters

pub number_ascii : (z : ℤ) → is_signed_128 z ≡ true → IsAscii (signed_decimal z)
number_ascii (pos n) h i = IsAscii-decimal_wide n (omega (arith, pos_small n h)) i
number_ascii (negsuc n) h zero = omega arith
number_ascii (negsuc n) h (suc i) = IsAscii-decimal_wide (suc n) (omega (arith, neg_small n h)) i

pub number_characters : (z : ℤ) → is_signed_128 z ≡ true → list_all is_in_word (signed_decimal z) ≡ true
number_characters (pos n) h = digits_in_word (decimal n) (decimal_is_IsNumeral_wide n (omega (arith, pos_small n h))).0.1
number_characters (negsuc n) h = digits_in_word (decimal (suc n)) (decimal_is_IsNumeral_wide (suc n) (omega (arith, neg_small n h))).0.1

some_text : (ds : List ℕ) → 0 < length ds → is_some_text ds ≡ true
some_text ds h = grind (arith, common_steps)

-- its first character is no sign of anything else
pub number_some : (z : ℤ) → is_signed_128 z ≡ true → is_some_text (signed_decimal z) ≡ true
number_some (pos n) h = some_text (decimal n) (decimal_is_IsNumeral_wide n (omega (arith, pos_small n h))).0.0
number_some (negsuc n) h = refl
