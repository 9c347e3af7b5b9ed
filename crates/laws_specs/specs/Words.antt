-- What values stand for: truths, integers, words of a width, variants and structs; and the operators of specs.
use Rattle.std.specs.Prelude.{ℕ, ℤ, pos, ◌+◌, ◌*◌, ◌-◌, ◌^◌, ◌/◌, ◌%◌, ◌+ℤ◌, ◌-ℤ◌, ◌*ℤ◌, Bool, true, false, not, ◌&&◌, ◌||◌, List, [], ◌∷◌, Option, Some, None, if◌then◌else◌, nat_lt, int_lt, slice_get}
use Rattle.std.specs.Bool.{◌==◌}
use Rattle.std.specs.Ordering.{int_eq}
use Rattle.std.specs.Int.Bits.{bit_and, bit_or, bit_xor}
use Rattle.std.proofs.Math.Bool.{beq}
use Rattle.laws_specs.specs.WordOperators.{all_ones, word_of, signed, negated, quotient, remainder, quotient_by_signs, remainder_by_signs, left_by, right_by, right_by_sign, residue, turned, turned_back}

mutual
  -- a word is a number below 2 to its width
  pub data Denoted : Type 0 where
    a_truth : (b : Bool) → Denoted
    an_integer : (z : ℤ) → Denoted
    a_word : (width n : ℕ) → Denoted
    variant_of : (ty variant : ℕ) (fields : DenotedList) → Denoted
    struct_of : (ty : ℕ) (fields : DenotedList) → Denoted

  pub data DenotedList : Type 0 where
    no_denoted : DenotedList
    denoted_and : (x : Denoted) (rest : DenotedList) → DenotedList

abbrev pub denoted_list : DenotedList → List Denoted
denoted_list no_denoted = []
denoted_list (denoted_and x rest) = x ∷ denoted_list rest

-- what has no parts
abbrev pub is_plain : Denoted → Bool
is_plain (a_truth b) = true
is_plain (an_integer z) = true
is_plain (a_word width n) = true
is_plain (variant_of ty variant fields) = false
is_plain (struct_of ty fields) = false

-- words lie below 2 to their width, at any depth
abbrev mutual
  pub is_formed : Denoted → Bool
  is_formed (a_truth b) = true
  is_formed (an_integer z) = true
  is_formed (a_word width n) = nat_lt n (2 ^ width)
  is_formed (variant_of ty variant fields) = are_formed fields
  is_formed (struct_of ty fields) = are_formed fields

  pub are_formed : DenotedList → Bool
  are_formed no_denoted = true
  are_formed (denoted_and x rest) = is_formed x && are_formed rest

abbrev mutual
  pub denoted_eq : Denoted → Denoted → Bool
  denoted_eq (a_truth a) (a_truth b) = beq a b
  denoted_eq (an_integer a) (an_integer b) = int_eq a b
  denoted_eq (a_word w a) (a_word v b) = (w == v) && (a == b)
  denoted_eq (variant_of s i a) (variant_of t j b) = (s == t) && (i == j) && denoted_list_eq a b
  denoted_eq (struct_of s a) (struct_of t b) = (s == t) && denoted_list_eq a b
  denoted_eq _ _ = false

  pub denoted_list_eq : DenotedList → DenotedList → Bool
  denoted_list_eq no_denoted no_denoted = true
  denoted_list_eq (denoted_and x a) (denoted_and y b) = denoted_eq x y && denoted_list_eq a b
  denoted_list_eq _ _ = false

-- whether two can be compared: words of one width, values of one type
abbrev pub same_sort : Denoted → Denoted → Bool
same_sort (a_truth a) (a_truth b) = true
same_sort (an_integer a) (an_integer b) = true
same_sort (a_word w a) (a_word v b) = w == v
same_sort (variant_of s i a) (variant_of t j b) = s == t
same_sort (struct_of s a) (struct_of t b) = s == t
same_sort _ _ = false

-- the operators of specs, by their names in SMT-LIB; those that swap their operands (as bvugt) aren't here
pub data Operator : Type 0 where
  equals : Operator
  both : Operator
  one_of : Operator
  negation : Operator
  implied : Operator
  less : Operator
  less_or_equal : Operator
  plus : Operator
  minus : Operator
  times : Operator
  word_plus : Operator
  word_minus : Operator
  word_times : Operator
  word_quotient : Operator
  word_remainder : Operator
  signed_quotient : Operator
  signed_remainder : Operator
  word_and : Operator
  word_or : Operator
  word_xor : Operator
  word_not : Operator
  word_negated : Operator
  shifted_left : Operator
  shifted_right : Operator
  shifted_right_signed : Operator
  -- by a word of the same width or by an integer, modulo the width
  rotated_left : Operator
  rotated_right : Operator
  word_less : Operator
  word_less_or_equal : Operator
  signed_less : Operator
  signed_less_or_equal : Operator
  joined : Operator
  -- of integers and a word: from the bit of the first number down to that of the second
  bits : Operator
  -- of an integer and a word: to so many bits, by zeros or by the sign
  widened : Operator
  widened_signed : Operator
  -- of two integers: the second as a word of so many bits as the first says; and back
  as_word : Operator
  as_integer : Operator
  width_of : Operator
  -- a field of a struct
  field : (i : ℕ) → Operator

-- words of one width
abbrev pub of_one_width : ℕ → ℕ → Option Denoted → Option Denoted
of_one_width w v o = if w == v then o else None

-- a word of so many bits where there are any
abbrev pub word_in : Bool → ℕ → ℕ → Option Denoted
word_in there width n = if there then Some (a_word width n) else None

-- of operands that don't fit it an operator says nothing
abbrev pub applied_to : Operator → DenotedList → Option Denoted
applied_to equals (denoted_and x (denoted_and y no_denoted)) = if same_sort x y then Some (a_truth (denoted_eq x y)) else None
applied_to both (denoted_and (a_truth a) (denoted_and (a_truth b) no_denoted)) = Some (a_truth (a && b))
applied_to one_of (denoted_and (a_truth a) (denoted_and (a_truth b) no_denoted)) = Some (a_truth (a || b))
applied_to negation (denoted_and (a_truth a) no_denoted) = Some (a_truth (not a))
applied_to implied (denoted_and (a_truth a) (denoted_and (a_truth b) no_denoted)) = Some (a_truth (not a || b))
applied_to less (denoted_and (an_integer a) (denoted_and (an_integer b) no_denoted)) = Some (a_truth (int_lt a b))
applied_to less_or_equal (denoted_and (an_integer a) (denoted_and (an_integer b) no_denoted)) = Some (a_truth (not (int_lt b a)))
applied_to plus (denoted_and (an_integer a) (denoted_and (an_integer b) no_denoted)) = Some (an_integer (a +ℤ b))
applied_to minus (denoted_and (an_integer a) (denoted_and (an_integer b) no_denoted)) = Some (an_integer (a -ℤ b))
applied_to times (denoted_and (an_integer a) (denoted_and (an_integer b) no_denoted)) = Some (an_integer (a *ℤ b))
applied_to word_plus (denoted_and (a_word w a) (denoted_and (a_word v b) no_denoted)) = of_one_width w v (Some (a_word w ((a + b) % (2 ^ w))))
applied_to word_minus (denoted_and (a_word w a) (denoted_and (a_word v b) no_denoted)) = of_one_width w v (Some (a_word w (((a + 2 ^ w) - b) % (2 ^ w))))
applied_to word_times (denoted_and (a_word w a) (denoted_and (a_word v b) no_denoted)) = of_one_width w v (Some (a_word w ((a * b) % (2 ^ w))))
applied_to word_quotient (denoted_and (a_word w a) (denoted_and (a_word v b) no_denoted)) = of_one_width w v (Some (a_word w (quotient w a b)))
applied_to word_remainder (denoted_and (a_word w a) (denoted_and (a_word v b) no_denoted)) = of_one_width w v (Some (a_word w (remainder a b)))
applied_to signed_quotient (denoted_and (a_word w a) (denoted_and (a_word v b) no_denoted)) = of_one_width w v (Some (a_word w (quotient_by_signs w a b)))
applied_to signed_remainder (denoted_and (a_word w a) (denoted_and (a_word v b) no_denoted)) = of_one_width w v (Some (a_word w (remainder_by_signs w a b)))
applied_to word_and (denoted_and (a_word w a) (denoted_and (a_word v b) no_denoted)) = of_one_width w v (Some (a_word w (bit_and a b)))
applied_to word_or (denoted_and (a_word w a) (denoted_and (a_word v b) no_denoted)) = of_one_width w v (Some (a_word w (bit_or a b)))
applied_to word_xor (denoted_and (a_word w a) (denoted_and (a_word v b) no_denoted)) = of_one_width w v (Some (a_word w (bit_xor a b)))
applied_to word_not (denoted_and (a_word w a) no_denoted) = Some (a_word w (all_ones w - a))
applied_to word_negated (denoted_and (a_word w a) no_denoted) = Some (a_word w (negated w a))
applied_to shifted_left (denoted_and (a_word w a) (denoted_and (a_word v b) no_denoted)) = of_one_width w v (Some (a_word w (left_by w a b)))
applied_to shifted_right (denoted_and (a_word w a) (denoted_and (a_word v b) no_denoted)) = of_one_width w v (Some (a_word w (right_by w a b)))
applied_to shifted_right_signed (denoted_and (a_word w a) (denoted_and (a_word v b) no_denoted)) = of_one_width w v (Some (a_word w (right_by_sign w a b)))
applied_to rotated_left (denoted_and (a_word w a) (denoted_and (a_word v b) no_denoted)) = of_one_width w v (Some (a_word w (turned w a (b % w))))
applied_to rotated_right (denoted_and (a_word w a) (denoted_and (a_word v b) no_denoted)) = of_one_width w v (Some (a_word w (turned_back w a (b % w))))
applied_to rotated_left (denoted_and (a_word w a) (denoted_and (an_integer z) no_denoted)) = Some (a_word w (turned w a (residue w z)))
applied_to rotated_right (denoted_and (a_word w a) (denoted_and (an_integer z) no_denoted)) = Some (a_word w (turned_back w a (residue w z)))
applied_to word_less (denoted_and (a_word w a) (denoted_and (a_word v b) no_denoted)) = of_one_width w v (Some (a_truth (nat_lt a b)))
applied_to word_less_or_equal (denoted_and (a_word w a) (denoted_and (a_word v b) no_denoted)) = of_one_width w v (Some (a_truth (not (nat_lt b a))))
applied_to signed_less (denoted_and (a_word w a) (denoted_and (a_word v b) no_denoted)) = of_one_width w v (Some (a_truth (int_lt (signed w a) (signed w b))))
applied_to signed_less_or_equal (denoted_and (a_word w a) (denoted_and (a_word v b) no_denoted)) = of_one_width w v (Some (a_truth (not (int_lt (signed w b) (signed w a)))))
applied_to joined (denoted_and (a_word w a) (denoted_and (a_word v b) no_denoted)) = Some (a_word (w + v) (a * 2 ^ v + b))
applied_to bits (denoted_and (an_integer (pos high)) (denoted_and (an_integer (pos low)) (denoted_and (a_word w a) no_denoted))) = word_in (not (nat_lt high low) && nat_lt high w) ((high + 1) - low) ((a / 2 ^ low) % 2 ^ ((high + 1) - low))
applied_to widened (denoted_and (an_integer (pos width)) (denoted_and (a_word w a) no_denoted)) = word_in (not (nat_lt width w)) width a
applied_to widened_signed (denoted_and (an_integer (pos width)) (denoted_and (a_word w a) no_denoted)) = word_in (not (nat_lt width w)) width (word_of width (signed w a))
applied_to as_word (denoted_and (an_integer (pos width)) (denoted_and (an_integer z) no_denoted)) = Some (a_word width (word_of width z))
applied_to as_integer (denoted_and (a_word w a) no_denoted) = Some (an_integer (pos a))
applied_to width_of (denoted_and (a_word w a) no_denoted) = Some (an_integer (pos w))
applied_to (field i) (denoted_and (struct_of ty fields) no_denoted) = slice_get (denoted_list fields) i
applied_to _ _ = None
