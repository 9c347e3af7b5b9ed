-- What an operator comes to by the sorts of its operands is what it gives.
use Rattle.std.proofs.Common.{◌≡◌, ℕ, pos, ◌+◌, ◌-◌, Bool, not, ◌&&◌, Option, Some, None, arith}
use Rattle.std.proofs.lemmas.Grind.{common_steps}
use Rattle.std.specs.Prelude.{nat_lt}
use Rattle.model.proofs.Elements.{some_is, none_some}
use Rattle.laws_specs.specs.Words.{Denoted, a_truth, an_integer, a_word, DenotedList, of_one_width, word_in, Operator, equals, word_plus, word_minus, word_times, word_quotient, word_remainder, signed_quotient, signed_remainder, word_and as bit_conjunction, word_or, word_xor, shifted_left, shifted_right, shifted_right_signed, rotated_left, rotated_right, word_less, word_less_or_equal, signed_less, signed_less_or_equal, bits, widened, widened_signed, applied_to}
use Rattle.model_questions.specs.Formulas.{known, written, Operands, no_operand, fact_and, integer_and, word_and, written_integer, Model, number_in, integer_in, truth_in, integer_of, is_so, operands_in}
use Rattle.model_questions.specs.Evaluated.{Result, no_result, truth_result, integer_result, word_result, unknown_result, of_same_width, word_where, result, fact_from, integer_from, literals}
use Rattle.model_questions.proofs.FactsSo.{both_so, one_so, none_so}

-- it gives nothing, a truth, an integer, a word of a width
abbrev pub ComesTo : Result → Option Denoted → Type 0
ComesTo no_result o = o ≡ None
ComesTo truth_result o = o ≡ Some (a_truth (truth_in o))
ComesTo integer_result o = o ≡ Some (an_integer (integer_in o))
ComesTo (word_result width) o = o ≡ Some (a_word width (number_in o))
ComesTo unknown_result o = Unit {0}

word_of_width : (w v n : ℕ) → ComesTo (of_same_width w v (word_result w)) (of_one_width w v (Some (a_word w n)))
word_of_width w v n = grind (arith, common_steps)

word_there : (c : Bool) (w n : ℕ) → ComesTo (word_where c w) (word_in c w n)
word_there c w n = grind (arith, common_steps)

module _ (m : Model) where
  abbrev gives : Operator → Operands → Option Denoted
  gives o of = applied_to o (operands_in m of)

  pub result_comes : (o : Operator) (of : Operands) → ComesTo (result o of) (applied_to o (operands_in m of))
  result_comes equals (word_and w a (word_and v b no_operand)) = grind (arith, common_steps)
  result_comes word_plus (word_and w a (word_and v b no_operand)) = word_of_width w v _
  result_comes word_minus (word_and w a (word_and v b no_operand)) = word_of_width w v _
  result_comes word_times (word_and w a (word_and v b no_operand)) = word_of_width w v _
  result_comes word_quotient (word_and w a (word_and v b no_operand)) = word_of_width w v _
  result_comes word_remainder (word_and w a (word_and v b no_operand)) = word_of_width w v _
  result_comes signed_quotient (word_and w a (word_and v b no_operand)) = word_of_width w v _
  result_comes signed_remainder (word_and w a (word_and v b no_operand)) = word_of_width w v _
  result_comes bit_conjunction (word_and w a (word_and v b no_operand)) = word_of_width w v _
  result_comes word_or (word_and w a (word_and v b no_operand)) = word_of_width w v _
  result_comes word_xor (word_and w a (word_and v b no_operand)) = word_of_width w v _
  result_comes shifted_left (word_and w a (word_and v b no_operand)) = word_of_width w v _
  result_comes shifted_right (word_and w a (word_and v b no_operand)) = word_of_width w v _
  result_comes shifted_right_signed (word_and w a (word_and v b no_operand)) = word_of_width w v _
  result_comes rotated_left (word_and w a (word_and v b no_operand)) = word_of_width w v _
  result_comes rotated_right (word_and w a (word_and v b no_operand)) = word_of_width w v _
  result_comes word_less (word_and w a (word_and v b no_operand)) = grind arith
  result_comes word_less_or_equal (word_and w a (word_and v b no_operand)) = grind arith
  result_comes signed_less (word_and w a (word_and v b no_operand)) = grind arith
  result_comes signed_less_or_equal (word_and w a (word_and v b no_operand)) = grind arith
  result_comes bits (integer_and (written_integer (pos high)) (integer_and (written_integer (pos low)) (word_and w a no_operand))) =
      word_there (not (nat_lt high low) && nat_lt high w) ((high + 1) - low) _
  result_comes widened (integer_and (written_integer (pos width)) (word_and w a no_operand)) = word_there (not (nat_lt width w)) width _
  result_comes widened_signed (integer_and (written_integer (pos width)) (word_and w a no_operand)) = word_there (not (nat_lt width w)) width _
  result_comes o of = grind (arith, common_steps)

  pub fact_from_so : (o : Operator) (of : Operands) → is_so m (fact_from o of) ≡ truth_in (applied_to o (operands_in m of))
  fact_from_so o of = grind (arith, common_steps, both_so, one_so, none_so)

  pub integer_from_is : (o : Operator) (of : Operands) → integer_of m (integer_from o of) ≡ integer_in (applied_to o (operands_in m of))
  integer_from_is o of = grind (arith, common_steps)

  -- operands that are written are what they come to
  pub literals_are : (of : Operands) (xs : DenotedList) → literals of ≡ Some xs → operands_in m of ≡ xs
  literals_are (fact_and (known b) rest) xs e = grind (arith, common_steps, literals_are rest)
  literals_are (integer_and (written_integer z) rest) xs e = grind (arith, common_steps, literals_are rest)
  literals_are (word_and w (written n) rest) xs e = grind (arith, common_steps, literals_are rest)
  literals_are of xs e = grind (arith, common_steps, some_is, none_some)
