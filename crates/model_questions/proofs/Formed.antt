-- Operators on words below two to their widths give such words.
use Rattle.std.proofs.Common.{◌≡◌, ◌<◌, ◌≤◌, ℕ, zero, suc, ℤ, pos, negsuc, ◌+◌, ◌*◌, ◌-◌, ◌^◌, ◌/◌, ◌%◌, Bool, true, false, not, ◌&&◌, Some, if◌then◌else◌, slice_get, sym, ap, ◌∙◌, refl, subst, arith, ltb-true, lt-ltb}
use Rattle.std.specs.Prelude.{nat_lt}
use Rattle.std.specs.Bool.{◌==◌}
use Rattle.std.specs.Int.Bits.{bit_and}
use Rattle.std.proofs.lemmas.Bool.{and_parts, eqb-true}
use Rattle.std.proofs.lemmas.Grind.{common_steps}
use Rattle.std.proofs.lemmas.Nat.{and_le_l, or_lt, xor_lt, or_shifted, shl_below, shr_below, shr_le, shl-shr, mod-pow-add, mod_below, pow_pos}
use Rattle.std.proofs.Math.Nat.{div-le_self, mod-le, mul-mod_left}
use Rattle.std.proofs.Math.Pow.{pow_mono}
use Rattle.model.proofs.Elements.{some_is, none_some}
use Rattle.laws_specs.specs.WordOperators.{all_ones, residue, word_of, is_negative, signed, negated, quotient, remainder, magnitude, with_sign, quotient_by_signs, remainder_by_signs, left_by, right_by, right_by_sign, turned, turned_back}
use Rattle.laws_specs.specs.Words.{Denoted, an_integer, a_word, struct_of, DenotedList, no_denoted, denoted_and, denoted_list, is_formed, are_formed, of_one_width, word_in, Operator, word_plus, word_minus, word_times, word_quotient, word_remainder, signed_quotient, signed_remainder, word_and, word_or, word_xor, word_not, word_negated, shifted_left, shifted_right, shifted_right_signed, rotated_left, rotated_right, joined, bits, widened, widened_signed, as_word, field, applied_to}

-- 1. numbers
modulo_below : (w n : ℕ) → n % (2 ^ w) < 2 ^ w
modulo_below w n = mod_below n (2 ^ w) (pow_pos w)

ones_below : (w n : ℕ) → all_ones w - n < 2 ^ w
ones_below w n = let p = pow_pos w in omega arith

either_below : (w x y : ℕ) (b : Bool) → x < 2 ^ w → y < 2 ^ w → (if b then x else y) < 2 ^ w
either_below w x y true h k = h
either_below w x y false h k = k

quotient_below : (w a b : ℕ) → a < 2 ^ w → quotient w a b < 2 ^ w
quotient_below w a zero h = let p = pow_pos w in omega arith
quotient_below w a (suc b) h = let d = div-le_self a (suc b) in omega arith

remainder_below : (w a b : ℕ) → a < 2 ^ w → remainder a b < 2 ^ w
remainder_below w a zero h = h
remainder_below w a (suc b) h = let d = mod-le a (suc b) in omega arith

magnitude_below : (w a : ℕ) → a < 2 ^ w → magnitude w a < 2 ^ w
magnitude_below w a h = either_below w (negated w a) a (is_negative w a) (modulo_below w (2 ^ w - a)) h

with_sign_below : (w : ℕ) (b : Bool) (n : ℕ) → n < 2 ^ w → with_sign w b n < 2 ^ w
with_sign_below w b n h = either_below w (negated w n) n b (modulo_below w (2 ^ w - n)) h

quotient_by_signs_below : (w a b : ℕ) → a < 2 ^ w → quotient_by_signs w a b < 2 ^ w
quotient_by_signs_below w a b h = with_sign_below w _ _ (quotient_below w (magnitude w a) (magnitude w b) (magnitude_below w a h))

remainder_by_signs_below : (w a b : ℕ) → a < 2 ^ w → remainder_by_signs w a b < 2 ^ w
remainder_by_signs_below w a b h = with_sign_below w _ _ (remainder_below w (magnitude w a) (magnitude w b) (magnitude_below w a h))

and_below : (w a b : ℕ) → a < 2 ^ w → bit_and a b < 2 ^ w
and_below w a b h = let d = and_le_l a b in omega arith

left_below : (w a b : ℕ) → left_by w a b < 2 ^ w
left_below w a b = either_below w _ 0 (nat_lt b w) (modulo_below w (a * 2 ^ b)) (pow_pos w)

right_below : (w a b : ℕ) → a < 2 ^ w → right_by w a b < 2 ^ w
right_below w a b h = let d = shr_le a b in either_below w (a / 2 ^ b) 0 (nat_lt b w) (omega arith) (pow_pos w)

right_by_sign_below : (w a b : ℕ) → a < 2 ^ w → right_by_sign w a b < 2 ^ w
right_by_sign_below w a b h = either_below w _ (right_by w a b) (is_negative w a) (ones_below w (right_by w (all_ones w - a) b)) (right_below w a b h)

residue_below : (w : ℕ) (z : ℤ) → word_of w z < 2 ^ w
residue_below w (pos n) = modulo_below w n
residue_below w (negsuc n) = modulo_below w (2 ^ w - suc (n % 2 ^ w))

joined_below : (j k a b : ℕ) → a < 2 ^ j → b < 2 ^ k → a * 2 ^ k + b < 2 ^ (j + k)
joined_below j k a b h l =
    let wide : 2 ^ k ≤ 2 ^ (j + k) = pow_mono {i = k} {j = j + k} (omega arith) in
    subst (λ n. n < 2 ^ (j + k)) (or_shifted a k b l) (or_lt (j + k) (a * 2 ^ k) b (shl_below a j k h) (omega arith))

wider_below : (w v a : ℕ) → w ≤ v → a < 2 ^ w → a < 2 ^ v
wider_below w v a h l = let wide : 2 ^ w ≤ 2 ^ v = pow_mono {i = w} {j = v} h in omega arith

-- fewer places than there are bits
turned_fewer : (j p a : ℕ) → a < 2 ^ (j + p) → (a * 2 ^ p) % (2 ^ (j + p)) + a / 2 ^ j < 2 ^ (j + p)
turned_fewer j p a h =
    let low : (a * 2 ^ p) % (2 ^ (j + p)) ≡ (a % 2 ^ j) * 2 ^ p + 0
    = mod-pow-add (a * 2 ^ p) j p ∙ ap (λ n. (n % 2 ^ j) * 2 ^ p + (a * 2 ^ p) % 2 ^ p) (shl-shr a p) ∙ ap (λ n. (a % 2 ^ j) * 2 ^ p + n) (mul-mod_left a (2 ^ p)) in
    let high : a / 2 ^ j < 2 ^ p = shr_below a p j (subst (λ n. a < 2 ^ n) (omega arith) h) in
    let all = joined_below j p (a % 2 ^ j) (a / 2 ^ j) (modulo_below j a) high in
    omega arith

turned_below : (w a p : ℕ) → p < w → a < 2 ^ w → turned w a p < 2 ^ w
turned_below w a p l h =
    let whole : (w - p) + p ≡ w = omega arith in
    subst (λ n. (a * 2 ^ p) % (2 ^ n) + a / 2 ^ (w - p) < 2 ^ n) whole (turned_fewer (w - p) p a (subst (λ n. a < 2 ^ n) (sym whole) h))

-- modulo the width: of no bits there is only zero
turned_none : (a p : ℕ) → a < 1 → turned 0 a p < 1
turned_none zero p h = grind arith
turned_none (suc a) p h = absurd (omega arith)

turned_modulo : (w a n : ℕ) → a < 2 ^ w → turned w a (n % w) < 2 ^ w
turned_modulo zero a n h = turned_none a (n % zero) h
turned_modulo (suc w) a n h = turned_below (suc w) a (n % suc w) (mod_below n (suc w) (omega arith)) h

turned_residue : (w a : ℕ) (z : ℤ) → a < 2 ^ w → turned w a (residue w z) < 2 ^ w
turned_residue w a (pos n) h = turned_modulo w a n h
turned_residue w a (negsuc n) h = turned_modulo w a (w - suc (n % w)) h

turned_back_below : (w a n : ℕ) → a < 2 ^ w → turned_back w a n < 2 ^ w
turned_back_below w a n h = turned_modulo w a (w - n) h

-- 2. words
is_below : (w n : ℕ) → is_formed (a_word w n) ≡ true → n < 2 ^ w
is_below w n h = ltb-true n (2 ^ w) h

below_is : (w n : ℕ) → n < 2 ^ w → is_formed (a_word w n) ≡ true
below_is w n h = lt-ltb n (2 ^ w) h

word_is_formed : (w n : ℕ) (x : Denoted) → n < 2 ^ w → Some (a_word w n) ≡ Some x → is_formed x ≡ true
word_is_formed w n x h e = subst (λ y. is_formed y ≡ true) (some_is (a_word w n) x e) (below_is w n h)

where_formed : (c : Bool) (w n : ℕ) (x : Denoted) → (c ≡ true → n < 2 ^ w) → word_in c w n ≡ Some x → is_formed x ≡ true
where_formed true w n x h e = word_is_formed w n x (h refl) e
where_formed false w n x h e = absurd (none_some x e)

same_formed : (w v n : ℕ) (x : Denoted) → (w ≡ v → n < 2 ^ w) → of_one_width w v (Some (a_word w n)) ≡ Some x → is_formed x ≡ true
same_formed w v n x h e = where_formed (w == v) w n x (λ t. h (eqb-true w v t)) e

-- the first of two words, and the second
module _ (w a v b : ℕ) (h : are_formed (denoted_and (a_word w a) (denoted_and (a_word v b) no_denoted)) ≡ true) where
  first_below : a < 2 ^ w
  first_below = is_below w a (and_parts _ _ h).0

  second_below : b < 2 ^ v
  second_below = is_below v b (and_parts _ _ (and_parts _ _ h).1).0

  second_same : w ≡ v → b < 2 ^ w
  second_same e = subst (λ n. b < 2 ^ n) (sym e) second_below

field_formed : (fs : DenotedList) (i : ℕ) (x : Denoted) → are_formed fs ≡ true → slice_get (denoted_list fs) i ≡ Some x → is_formed x ≡ true
field_formed no_denoted i x h e = grind (arith, common_steps, none_some)
field_formed (denoted_and y fs) zero x h e = subst (λ z. is_formed z ≡ true) (some_is y x e) (and_parts _ _ h).0
field_formed (denoted_and y fs) (suc i) x h e = field_formed fs i x (and_parts _ _ h).1 e

-- 3. operators
pub applied_formed : (o : Operator) (xs : DenotedList) (x : Denoted) → are_formed xs ≡ true → applied_to o xs ≡ Some x → is_formed x ≡ true
applied_formed word_plus (denoted_and (a_word w a) (denoted_and (a_word v b) no_denoted)) x h e = same_formed w v _ x (λ s. modulo_below w (a + b)) e
applied_formed word_minus (denoted_and (a_word w a) (denoted_and (a_word v b) no_denoted)) x h e = same_formed w v _ x (λ s. modulo_below w ((a + 2 ^ w) - b)) e
applied_formed word_times (denoted_and (a_word w a) (denoted_and (a_word v b) no_denoted)) x h e = same_formed w v _ x (λ s. modulo_below w (a * b)) e
applied_formed word_quotient (denoted_and (a_word w a) (denoted_and (a_word v b) no_denoted)) x h e = same_formed w v _ x (λ s. quotient_below w a b (first_below w a v b h)) e
applied_formed word_remainder (denoted_and (a_word w a) (denoted_and (a_word v b) no_denoted)) x h e = same_formed w v _ x (λ s. remainder_below w a b (first_below w a v b h)) e
applied_formed signed_quotient (denoted_and (a_word w a) (denoted_and (a_word v b) no_denoted)) x h e = same_formed w v _ x (λ s. quotient_by_signs_below w a b (first_below w a v b h)) e
applied_formed signed_remainder (denoted_and (a_word w a) (denoted_and (a_word v b) no_denoted)) x h e = same_formed w v _ x (λ s. remainder_by_signs_below w a b (first_below w a v b h)) e
applied_formed word_and (denoted_and (a_word w a) (denoted_and (a_word v b) no_denoted)) x h e = same_formed w v _ x (λ s. and_below w a b (first_below w a v b h)) e
applied_formed word_or (denoted_and (a_word w a) (denoted_and (a_word v b) no_denoted)) x h e = same_formed w v _ x (λ s. or_lt w a b (first_below w a v b h) (second_same w a v b h s)) e
applied_formed word_xor (denoted_and (a_word w a) (denoted_and (a_word v b) no_denoted)) x h e = same_formed w v _ x (λ s. xor_lt w a b (first_below w a v b h) (second_same w a v b h s)) e
applied_formed word_not (denoted_and (a_word w a) no_denoted) x h e = word_is_formed w _ x (ones_below w a) e
applied_formed word_negated (denoted_and (a_word w a) no_denoted) x h e = word_is_formed w _ x (modulo_below w (2 ^ w - a)) e
applied_formed shifted_left (denoted_and (a_word w a) (denoted_and (a_word v b) no_denoted)) x h e = same_formed w v _ x (λ s. left_below w a b) e
applied_formed shifted_right (denoted_and (a_word w a) (denoted_and (a_word v b) no_denoted)) x h e = same_formed w v _ x (λ s. right_below w a b (first_below w a v b h)) e
applied_formed shifted_right_signed (denoted_and (a_word w a) (denoted_and (a_word v b) no_denoted)) x h e = same_formed w v _ x (λ s. right_by_sign_below w a b (first_below w a v b h)) e
applied_formed rotated_left (denoted_and (a_word w a) (denoted_and (a_word v b) no_denoted)) x h e = same_formed w v _ x (λ s. turned_modulo w a b (first_below w a v b h)) e
applied_formed rotated_right (denoted_and (a_word w a) (denoted_and (a_word v b) no_denoted)) x h e = same_formed w v _ x (λ s. turned_back_below w a (b % w) (first_below w a v b h)) e
applied_formed rotated_left (denoted_and (a_word w a) (denoted_and (an_integer z) no_denoted)) x h e = word_is_formed w _ x (turned_residue w a z (is_below w a (and_parts _ _ h).0)) e
applied_formed rotated_right (denoted_and (a_word w a) (denoted_and (an_integer z) no_denoted)) x h e = word_is_formed w _ x (turned_back_below w a (residue w z) (is_below w a (and_parts _ _ h).0)) e
applied_formed joined (denoted_and (a_word w a) (denoted_and (a_word v b) no_denoted)) x h e = word_is_formed (w + v) _ x (joined_below w v a b (first_below w a v b h) (second_below w a v b h)) e
applied_formed bits (denoted_and (an_integer (pos high)) (denoted_and (an_integer (pos low)) (denoted_and (a_word w a) no_denoted))) x h e =
    where_formed (not (nat_lt high low) && nat_lt high w) ((high + 1) - low) _ x (λ t. modulo_below ((high + 1) - low) (a / 2 ^ low)) e
applied_formed widened (denoted_and (an_integer (pos width)) (denoted_and (a_word w a) no_denoted)) x h e =
    where_formed (not (nat_lt width w)) width a x (λ t. wider_below w width a (grind arith) (is_below w a (and_parts _ _ h).0)) e
applied_formed widened_signed (denoted_and (an_integer (pos width)) (denoted_and (a_word w a) no_denoted)) x h e = where_formed (not (nat_lt width w)) width _ x (λ t. residue_below width (signed w a)) e
applied_formed as_word (denoted_and (an_integer (pos width)) (denoted_and (an_integer z) no_denoted)) x h e = word_is_formed width _ x (residue_below width z) e
applied_formed (field i) (denoted_and (struct_of ty fields) no_denoted) x h e = field_formed fields i x (and_parts _ _ h).0 e
applied_formed o xs x h e = grind (arith, common_steps)
