-- Operators on examples, each as two SMT solvers have it, and near misses; and the forms of expressions.
use Rattle.std.specs.Prelude.{◌≡◌, ◌+◌, ℕ, pos, negsuc, true, false, List, [], ◌∷◌, map, Option, Some, None}
use Rattle.laws_specs.specs.Words.{Denoted, a_truth, an_integer, a_word, variant_of, struct_of, DenotedList, no_denoted, denoted_and, Operator, as_integer, as_word, bits, equals, field, joined, rotated_left, rotated_right, shifted_left, shifted_right, shifted_right_signed, signed_less, signed_less_or_equal, signed_quotient, signed_remainder, widened, widened_signed, width_of, word_and, word_less, word_less_or_equal, word_minus, word_negated, word_not, word_or, word_plus, word_quotient, word_remainder, word_times, word_xor, applied_to}
use Rattle.laws_specs.specs.Specs.{Unknowns, SpecExpr, its_argument, its_result, variable, the_same, operation, unknown, let_in, switch_on, match_on, if_else, no_spec_expr, spec_expr_and, no_case, case_and, no_spec_arm, spec_arm_and, struct_arm, arm_else, says}
use Rattle.laws_specs.specs.Samples.{two, byte, of_two}

abbrev pub alone : Denoted → DenotedList
alone x = denoted_and x no_denoted

abbrev pub int : ℕ → Denoted
int n = an_integer (pos n)

-- (extract high low x)
abbrev pub cut : ℕ → ℕ → Denoted → DenotedList
cut high low x = denoted_and (int high) (two (int low) x)

-- an operator, its operands, and what it says of them
abbrev pub Row : Type 0
Row = Operator × DenotedList × Option Denoted

abbrev pub on_bytes : List Row
on_bytes =
    (word_plus, two (byte 200) (byte 100), Some (byte 44))
    ∷ (word_plus, two (byte 1) (byte 2), Some (byte 3))
    ∷ (word_minus, two (byte 100) (byte 200), Some (byte 156))
    ∷ (word_times, two (byte 20) (byte 20), Some (byte 144))
    ∷ (word_quotient, two (byte 200) (byte 7), Some (byte 28))
    ∷ (word_quotient, two (byte 200) (byte 0), Some (byte 255))
    ∷ (word_remainder, two (byte 200) (byte 7), Some (byte 4))
    ∷ (word_remainder, two (byte 200) (byte 0), Some (byte 200))
    ∷ (signed_quotient, two (byte 249) (byte 2), Some (byte 253))
    ∷ (signed_quotient, two (byte 7) (byte 254), Some (byte 253))
    ∷ (signed_quotient, two (byte 249) (byte 254), Some (byte 3))
    ∷ (signed_quotient, two (byte 249) (byte 0), Some (byte 1))
    ∷ (signed_quotient, two (byte 7) (byte 0), Some (byte 255))
    ∷ (signed_quotient, two (byte 128) (byte 255), Some (byte 128))
    ∷ (signed_remainder, two (byte 249) (byte 2), Some (byte 255))
    ∷ (signed_remainder, two (byte 7) (byte 254), Some (byte 1))
    ∷ (signed_remainder, two (byte 249) (byte 254), Some (byte 255))
    ∷ (signed_remainder, two (byte 249) (byte 0), Some (byte 249))
    ∷ (word_and, two (byte 204) (byte 170), Some (byte 136))
    ∷ (word_or, two (byte 204) (byte 170), Some (byte 238))
    ∷ (word_xor, two (byte 204) (byte 170), Some (byte 102))
    ∷ (shifted_left, two (byte 129) (byte 1), Some (byte 2))
    ∷ (shifted_left, two (byte 129) (byte 8), Some (byte 0))
    ∷ (shifted_right, two (byte 129) (byte 1), Some (byte 64))
    ∷ (shifted_right, two (byte 129) (byte 200), Some (byte 0))
    ∷ (shifted_right_signed, two (byte 129) (byte 1), Some (byte 192))
    ∷ (shifted_right_signed, two (byte 129) (byte 9), Some (byte 255))
    ∷ (shifted_right_signed, two (byte 65) (byte 1), Some (byte 32))
    ∷ (shifted_right_signed, two (byte 65) (byte 9), Some (byte 0))
    ∷ (word_less, two (byte 100) (byte 200), Some (a_truth true))
    ∷ (word_less, two (byte 200) (byte 200), Some (a_truth false))
    ∷ (word_less_or_equal, two (byte 200) (byte 200), Some (a_truth true))
    ∷ (word_less_or_equal, two (byte 201) (byte 200), Some (a_truth false))
    ∷ (signed_less, two (byte 200) (byte 100), Some (a_truth true))
    ∷ (signed_less, two (byte 100) (byte 200), Some (a_truth false))
    ∷ (signed_less, two (byte 128) (byte 127), Some (a_truth true))
    ∷ (signed_less_or_equal, two (byte 200) (byte 200), Some (a_truth true))
    ∷ (signed_less_or_equal, two (byte 100) (byte 200), Some (a_truth false))
    ∷ (word_not, alone (byte 204), Some (byte 51))
    ∷ (word_not, alone (byte 0), Some (byte 255))
    ∷ (word_negated, alone (byte 1), Some (byte 255))
    ∷ (word_negated, alone (byte 0), Some (byte 0))
    ∷ (word_negated, alone (byte 128), Some (byte 128))
    ∷ (rotated_left, two (byte 129) (byte 1), Some (byte 3))
    ∷ (rotated_left, two (byte 129) (byte 9), Some (byte 3))
    ∷ (rotated_left, two (byte 129) (byte 0), Some (byte 129))
    ∷ (rotated_right, two (byte 129) (byte 1), Some (byte 192))
    ∷ (rotated_right, two (byte 129) (byte 8), Some (byte 129))
    ∷ (rotated_left, two (byte 129) (int 9), Some (byte 3))
    ∷ (rotated_left, two (a_word 5 1) (int 33), Some (a_word 5 8))
    ∷ (rotated_left, two (a_word 5 1) (int 5), Some (a_word 5 1))
    ∷ (rotated_left, two (a_word 5 1) (an_integer (negsuc 0)), Some (a_word 5 16))
    ∷ (rotated_left, two (a_word 5 1) (an_integer (negsuc 32)), Some (a_word 5 4))
    ∷ (rotated_right, two (a_word 5 1) (int 33), Some (a_word 5 4))
    ∷ (rotated_right, two (a_word 5 1) (int 0), Some (a_word 5 1))
    ∷ (rotated_right, two (a_word 5 1) (an_integer (negsuc 0)), Some (a_word 5 2))
    ∷ (joined, two (a_word 4 10) (byte 3), Some (a_word 12 2563))
    ∷ (bits, cut 6 3 (byte 204), Some (a_word 4 9))
    ∷ (bits, cut 7 0 (byte 204), Some (byte 204))
    ∷ (widened, two (int 16) (byte 200), Some (a_word 16 200))
    ∷ (widened, two (int 8) (byte 200), Some (byte 200))
    ∷ (widened_signed, two (int 16) (byte 200), Some (a_word 16 65480))
    ∷ (widened_signed, two (int 16) (byte 100), Some (a_word 16 100))
    ∷ (as_word, two (int 8) (int 300), Some (byte 44))
    ∷ (as_word, two (int 8) (an_integer (negsuc 0)), Some (byte 255))
    ∷ (as_integer, alone (byte 200), Some (int 200))
    ∷ []

-- operands of two widths, too few, of another sort; bits that a word doesn't have; fewer bits than there are; widths and bits below
-- zero, and such as are words
abbrev pub refused : List Row
refused =
    (word_plus, two (byte 1) (a_word 16 1), None)
    ∷ (shifted_left, two (byte 1) (a_word 16 1), None)
    ∷ (rotated_left, two (byte 1) (a_word 16 1), None)
    ∷ (rotated_right, two (int 1) (byte 1), None)
    ∷ (rotated_right, two (byte 1) (a_truth true), None)
    ∷ (word_and, alone (byte 1), None)
    ∷ (word_not, two (byte 1) (byte 1), None)
    ∷ (signed_less, two (an_integer (pos 1)) (byte 1), None)
    ∷ (bits, cut 8 0 (byte 1), None)
    ∷ (bits, cut 2 3 (byte 1), None)
    ∷ (bits, denoted_and (int 7) (two (an_integer (negsuc 0)) (byte 1)), None)
    ∷ (widened, two (int 4) (byte 1), None)
    ∷ (widened, two (an_integer (negsuc 15)) (byte 1), None)
    ∷ (widened, two (byte 16) (byte 1), None)
    ∷ (widened_signed, alone (byte 1), None)
    ∷ (as_word, two (int 8) (byte 1), None)
    ∷ (as_word, two (an_integer (negsuc 7)) (int 1), None)
    ∷ (field 0, alone (variant_of 3 0 (alone (byte 1))), None)
    ∷ []

abbrev pub AreApplied : List Row → Type 0
AreApplied rows = map (λ (r : Row). applied_to r.0 r.1) rows ≡ map (λ (r : Row). r.2) rows

-- an unknown function that is one more than its first operand, in bytes
abbrev pub one_more : Unknowns
one_more f (denoted_and (a_word w n) rest) = byte (n + 1)
one_more f xs = byte 0

abbrev pub a_byte : ℕ → SpecExpr
a_byte n = the_same (byte n)

abbrev pub on : Denoted → SpecExpr → Option Denoted
on x e = says one_more (alone x) None e []

-- (switch a (1 10) (2 20))
abbrev pub switching : SpecExpr
switching = switch_on (its_argument 0) (case_and (a_byte 1) (a_byte 10) (case_and (a_byte 2) (a_byte 20) no_case))

-- (match a ((A x y) y) ((B) 7)), of type 3
abbrev pub matching : SpecExpr
matching = match_on (its_argument 0) (spec_arm_and 3 0 (variable 1) (spec_arm_and 3 1 (a_byte 7) no_spec_arm))

-- (match a ((S x y) y)), of type 5
abbrev pub matching_struct : SpecExpr
matching_struct = match_on (its_argument 0) (struct_arm 5 (variable 1))

-- (zero_ext (widthof b) a), and (int2bv (widthof b) 300)
abbrev pub widening : SpecExpr
widening = operation widened (of_two (operation width_of (spec_expr_and (its_argument 1) no_spec_expr)) (its_argument 0))

abbrev pub forming : SpecExpr
forming = operation as_word (of_two (operation width_of (spec_expr_and (its_argument 1) no_spec_expr)) (the_same (int 300)))

abbrev pub on_two : Denoted → Denoted → SpecExpr → Option Denoted
on_two x y e = says one_more (two x y) None e []

-- (match a ((A x y) x) (z z)), and with 20 in place of the last z
abbrev pub matching_or : SpecExpr → SpecExpr
matching_or e = match_on (its_argument 0) (spec_arm_and 3 0 (variable 0) (arm_else e))

-- (let ((x a) (y 5)) (bvsub x y)): the last one bound comes first
abbrev pub letting : SpecExpr
letting = let_in (its_argument 0) (let_in (a_byte 5) (operation word_minus (of_two (variable 1) (variable 0))))

-- (= a n)
abbrev pub is_byte : ℕ → SpecExpr
is_byte n = operation equals (of_two (its_argument 0) (a_byte n))

-- it says nothing of a byte
abbrev pub a_joined_truth : SpecExpr
a_joined_truth = operation joined (of_two (its_argument 0) (the_same (a_truth true)))

pub record FormsAreSaid : Type 0 where
  pub first_case : on (byte 1) switching ≡ Some (byte 10)
  pub second_case : on (byte 2) switching ≡ Some (byte 20)
  pub no_case : on (byte 3) switching ≡ None
  pub other_width : on (a_word 16 1) switching ≡ None
  pub taken : on (byte 1) (if_else (is_byte 1) (a_byte 10) (a_byte 20)) ≡ Some (byte 10)
  pub other_taken : on (byte 2) (if_else (is_byte 1) (a_byte 10) (a_byte 20)) ≡ Some (byte 20)
  pub beside_nothing : on (byte 1) (if_else (is_byte 1) (a_byte 10) a_joined_truth) ≡ Some (byte 10)
  pub past_nothing : on (byte 2) (if_else (is_byte 1) a_joined_truth (a_byte 20)) ≡ Some (byte 20)
  pub of_two_sorts : on (byte 2) (if_else (is_byte 1) (the_same (a_truth true)) (a_byte 20)) ≡ Some (byte 20)
  pub nothing_taken : on (byte 2) (if_else (is_byte 1) (a_byte 10) a_joined_truth) ≡ None
  pub by_no_truth : on (byte 1) (if_else (its_argument 0) (a_byte 10) (a_byte 20)) ≡ None
  pub by_nothing : on (byte 1) (if_else a_joined_truth (a_byte 10) (a_byte 10)) ≡ None
  pub first_arm : on (variant_of 3 0 (two (byte 8) (byte 9))) matching ≡ Some (byte 9)
  pub second_arm : on (variant_of 3 1 no_denoted) matching ≡ Some (byte 7)
  pub no_arm : on (variant_of 3 2 no_denoted) matching ≡ None
  pub other_type : on (variant_of 4 0 (two (byte 8) (byte 9))) matching ≡ None
  pub mixed_types : on (variant_of 3 0 (two (byte 8) (byte 9))) (match_on (its_argument 0) (spec_arm_and 4 0 (a_byte 1) (spec_arm_and 3 0 (a_byte 2) no_spec_arm))) ≡ None
  pub before_else : on (variant_of 3 0 (two (byte 8) (byte 9))) (matching_or (a_byte 20)) ≡ Some (byte 8)
  pub by_else : on (variant_of 3 1 (alone (byte 8))) (matching_or (a_byte 20)) ≡ Some (byte 20)
  pub bound_by_else : on (variant_of 3 1 (alone (byte 8))) (matching_or (variable 0)) ≡ Some (variant_of 3 1 (alone (byte 8)))
  pub not_bound_by_else : on (variant_of 3 1 (alone (byte 8))) (matching_or (variable 1)) ≡ None
  pub over_else : on (byte 8) (let_in (a_byte 5) (match_on (its_argument 0) (arm_else (operation word_minus (of_two (variable 0) (variable 1)))))) ≡ Some (byte 3)
  pub else_of_other_type : on (variant_of 4 0 no_denoted) (matching_or (a_byte 20)) ≡ None
  pub else_of_word : on (byte 8) (matching_or (a_byte 20)) ≡ None
  pub of_struct : on (struct_of 5 (two (byte 8) (byte 9))) matching_struct ≡ Some (byte 9)
  pub of_other_struct : on (struct_of 6 (two (byte 8) (byte 9))) matching_struct ≡ None
  pub of_no_struct : on (variant_of 5 0 (two (byte 8) (byte 9))) matching_struct ≡ None
  pub struct_for_variant : on (struct_of 3 (two (byte 8) (byte 9))) matching ≡ None
  pub of_struct_or_else : on (struct_of 5 no_denoted) (match_on (its_argument 0) (arm_else (a_byte 20))) ≡ Some (byte 20)
  pub to_width_of : on_two (byte 200) (a_word 16 1) widening ≡ Some (a_word 16 200)
  pub to_lesser_width_of : on_two (a_word 16 1) (byte 200) widening ≡ None
  pub to_width_of_integer : on_two (byte 200) (int 1) widening ≡ None
  pub of_width_of : on_two (byte 1) (byte 1) forming ≡ Some (byte 44)
  pub of_other_width_of : on_two (byte 1) (a_word 16 1) forming ≡ Some (a_word 16 300)
  pub a_let : on (byte 8) letting ≡ Some (byte 3)
  pub a_field : on (struct_of 5 (two (byte 8) (byte 9))) (operation (field 1) (spec_expr_and (its_argument 0) no_spec_expr)) ≡ Some (byte 9)
  pub an_unknown : on (byte 8) (unknown 0 (spec_expr_and (its_argument 0) no_spec_expr)) ≡ Some (byte 9)
  pub without_result : on (byte 8) (unknown 0 (spec_expr_and its_result no_spec_expr)) ≡ None

pub record OperatorsAreApplied : Type 0 where
  pub as_solvers : AreApplied on_bytes
  pub near_misses : AreApplied refused
