-- Operands are those of their shape; of other ones an operator gives nothing that is followed.
use Rattle.std.proofs.Common.{◌≡◌, pos, Bool, true, false, List, [], ◌∷◌, ◌⊎◌, inl, inr, refl, sym}
use Rattle.std.proofs.lemmas.Bool.{false≢true}
use Rattle.laws_specs.specs.Words as D
use Rattle.model_questions.specs.Formulas as M
use Rattle.model_questions.specs.Evaluated as E
use Rattle.spec_cases.specs.declared.formulas.Operand.{Operand}
use Rattle.spec_cases.specs.declared.formulas.Operand.TheVariants as O
use Rattle.spec_cases.specs.declared.shapes.Shape.{Shape}
use Rattle.spec_cases.specs.declared.shapes.Shape.TheVariants as S
use Rattle.spec_cases.specs.Namings.{Naming, operands_of}
use Rattle.spec_cases.specs.Shapes.{shape_of, of_shape}

abbrev pub is_others : Shape → Bool
is_others S.Others = true
is_others (S.OneFact a) = false
is_others (S.TwoFacts a b) = false
is_others (S.TwoIntegers a b) = false
is_others (S.OneWord w a) = false
is_others (S.TwoWords w a x b) = false
is_others (S.WordInteger w a z) = false
is_others (S.IntegerWord z w a) = false
is_others (S.TwoIntegersWord y z w a) = false

-- operands that no operator asks for
abbrev pub is_other : M.Operands → Bool
is_other (M.fact_and a M.no_operand) = false
is_other (M.fact_and a (M.fact_and b M.no_operand)) = false
is_other (M.integer_and y (M.integer_and z M.no_operand)) = false
is_other (M.word_and w a M.no_operand) = false
is_other (M.word_and w a (M.word_and x b M.no_operand)) = false
is_other (M.word_and w a (M.integer_and z M.no_operand)) = false
is_other (M.integer_and z (M.word_and w a M.no_operand)) = false
is_other (M.integer_and y (M.integer_and z (M.word_and w a M.no_operand))) = false
is_other _ = true

module _ (v : Naming) where
  pub shaped : (of : List Operand) → ((is_others (shape_of of) ≡ true) × (is_other (operands_of v of) ≡ true)) ⊎ (operands_of v of ≡ of_shape v (shape_of of))
  shaped ([]) = inl (refl, refl)
  shaped (O.Fact f0 ∷ []) = inr refl
  shaped (O.Integer z0 ∷ []) = inl (refl, refl)
  shaped (O.Word w0 t0 ∷ []) = inr refl
  shaped (O.Fact f0 ∷ (O.Fact f1 ∷ [])) = inr refl
  shaped (O.Fact f0 ∷ (O.Integer z1 ∷ [])) = inl (refl, refl)
  shaped (O.Fact f0 ∷ (O.Word w1 t1 ∷ [])) = inl (refl, refl)
  shaped (O.Integer z0 ∷ (O.Fact f1 ∷ [])) = inl (refl, refl)
  shaped (O.Integer z0 ∷ (O.Integer z1 ∷ [])) = inr refl
  shaped (O.Integer z0 ∷ (O.Word w1 t1 ∷ [])) = inr refl
  shaped (O.Word w0 t0 ∷ (O.Fact f1 ∷ [])) = inl (refl, refl)
  shaped (O.Word w0 t0 ∷ (O.Integer z1 ∷ [])) = inr refl
  shaped (O.Word w0 t0 ∷ (O.Word w1 t1 ∷ [])) = inr refl
  shaped (O.Fact f0 ∷ (O.Integer z1 ∷ (x2 ∷ []))) = inl (refl, refl)
  shaped (O.Fact f0 ∷ (O.Word w1 t1 ∷ (x2 ∷ []))) = inl (refl, refl)
  shaped (O.Integer z0 ∷ (O.Fact f1 ∷ (x2 ∷ []))) = inl (refl, refl)
  shaped (O.Word w0 t0 ∷ (O.Fact f1 ∷ (x2 ∷ []))) = inl (refl, refl)
  shaped (O.Fact f0 ∷ (O.Fact f1 ∷ (O.Fact f2 ∷ []))) = inl (refl, refl)
  shaped (O.Fact f0 ∷ (O.Fact f1 ∷ (O.Integer z2 ∷ []))) = inl (refl, refl)
  shaped (O.Fact f0 ∷ (O.Fact f1 ∷ (O.Word w2 t2 ∷ []))) = inl (refl, refl)
  shaped (O.Integer z0 ∷ (O.Word w1 t1 ∷ (O.Fact f2 ∷ []))) = inl (refl, refl)
  shaped (O.Integer z0 ∷ (O.Word w1 t1 ∷ (O.Integer z2 ∷ []))) = inl (refl, refl)
  shaped (O.Integer z0 ∷ (O.Word w1 t1 ∷ (O.Word w2 t2 ∷ []))) = inl (refl, refl)
  shaped (O.Integer z0 ∷ (O.Integer z1 ∷ (O.Fact f2 ∷ []))) = inl (refl, refl)
  shaped (O.Integer z0 ∷ (O.Integer z1 ∷ (O.Integer z2 ∷ []))) = inl (refl, refl)
  shaped (O.Integer z0 ∷ (O.Integer z1 ∷ (O.Word w2 t2 ∷ []))) = inr refl
  shaped (O.Word w0 t0 ∷ (O.Integer z1 ∷ (O.Fact f2 ∷ []))) = inl (refl, refl)
  shaped (O.Word w0 t0 ∷ (O.Integer z1 ∷ (O.Integer z2 ∷ []))) = inl (refl, refl)
  shaped (O.Word w0 t0 ∷ (O.Integer z1 ∷ (O.Word w2 t2 ∷ []))) = inl (refl, refl)
  shaped (O.Word w0 t0 ∷ (O.Word w1 t1 ∷ (O.Fact f2 ∷ []))) = inl (refl, refl)
  shaped (O.Word w0 t0 ∷ (O.Word w1 t1 ∷ (O.Integer z2 ∷ []))) = inl (refl, refl)
  shaped (O.Word w0 t0 ∷ (O.Word w1 t1 ∷ (O.Word w2 t2 ∷ []))) = inl (refl, refl)
  shaped (O.Fact f0 ∷ (O.Integer z1 ∷ (x2 ∷ (x3 ∷ (more))))) = inl (refl, refl)
  shaped (O.Fact f0 ∷ (O.Word w1 t1 ∷ (x2 ∷ (x3 ∷ (more))))) = inl (refl, refl)
  shaped (O.Integer z0 ∷ (O.Fact f1 ∷ (x2 ∷ (x3 ∷ (more))))) = inl (refl, refl)
  shaped (O.Word w0 t0 ∷ (O.Fact f1 ∷ (x2 ∷ (x3 ∷ (more))))) = inl (refl, refl)
  shaped (O.Fact f0 ∷ (O.Fact f1 ∷ (O.Fact f2 ∷ (x3 ∷ (more))))) = inl (refl, refl)
  shaped (O.Fact f0 ∷ (O.Fact f1 ∷ (O.Integer z2 ∷ (x3 ∷ (more))))) = inl (refl, refl)
  shaped (O.Fact f0 ∷ (O.Fact f1 ∷ (O.Word w2 t2 ∷ (x3 ∷ (more))))) = inl (refl, refl)
  shaped (O.Integer z0 ∷ (O.Word w1 t1 ∷ (O.Fact f2 ∷ (x3 ∷ (more))))) = inl (refl, refl)
  shaped (O.Integer z0 ∷ (O.Word w1 t1 ∷ (O.Integer z2 ∷ (x3 ∷ (more))))) = inl (refl, refl)
  shaped (O.Integer z0 ∷ (O.Word w1 t1 ∷ (O.Word w2 t2 ∷ (x3 ∷ (more))))) = inl (refl, refl)
  shaped (O.Integer z0 ∷ (O.Integer z1 ∷ (O.Fact f2 ∷ (x3 ∷ (more))))) = inl (refl, refl)
  shaped (O.Integer z0 ∷ (O.Integer z1 ∷ (O.Integer z2 ∷ (x3 ∷ (more))))) = inl (refl, refl)
  shaped (O.Integer z0 ∷ (O.Integer z1 ∷ (O.Word w2 t2 ∷ (O.Fact f3 ∷ (more))))) = inl (refl, refl)
  shaped (O.Integer z0 ∷ (O.Integer z1 ∷ (O.Word w2 t2 ∷ (O.Integer z3 ∷ (more))))) = inl (refl, refl)
  shaped (O.Integer z0 ∷ (O.Integer z1 ∷ (O.Word w2 t2 ∷ (O.Word w3 t3 ∷ (more))))) = inl (refl, refl)
  shaped (O.Word w0 t0 ∷ (O.Integer z1 ∷ (O.Fact f2 ∷ (x3 ∷ (more))))) = inl (refl, refl)
  shaped (O.Word w0 t0 ∷ (O.Integer z1 ∷ (O.Integer z2 ∷ (x3 ∷ (more))))) = inl (refl, refl)
  shaped (O.Word w0 t0 ∷ (O.Integer z1 ∷ (O.Word w2 t2 ∷ (x3 ∷ (more))))) = inl (refl, refl)
  shaped (O.Word w0 t0 ∷ (O.Word w1 t1 ∷ (O.Fact f2 ∷ (x3 ∷ (more))))) = inl (refl, refl)
  shaped (O.Word w0 t0 ∷ (O.Word w1 t1 ∷ (O.Integer z2 ∷ (x3 ∷ (more))))) = inl (refl, refl)
  shaped (O.Word w0 t0 ∷ (O.Word w1 t1 ∷ (O.Word w2 t2 ∷ (x3 ∷ (more))))) = inl (refl, refl)

pub result_other : (o : D.Operator) (of : M.Operands) → is_other of ≡ true → E.result o of ≡ E.unknown_result
result_other D.equals (M.fact_and a (M.fact_and b M.no_operand)) h = absurd (false≢true h)
result_other D.equals (M.integer_and a (M.integer_and b M.no_operand)) h = absurd (false≢true h)
result_other D.equals (M.word_and w a (M.word_and x b M.no_operand)) h = absurd (false≢true h)
result_other D.both (M.fact_and a (M.fact_and b M.no_operand)) h = absurd (false≢true h)
result_other D.one_of (M.fact_and a (M.fact_and b M.no_operand)) h = absurd (false≢true h)
result_other D.implied (M.fact_and a (M.fact_and b M.no_operand)) h = absurd (false≢true h)
result_other D.negation (M.fact_and a M.no_operand) h = absurd (false≢true h)
result_other D.less (M.integer_and a (M.integer_and b M.no_operand)) h = absurd (false≢true h)
result_other D.less_or_equal (M.integer_and a (M.integer_and b M.no_operand)) h = absurd (false≢true h)
result_other D.plus (M.integer_and a (M.integer_and b M.no_operand)) h = absurd (false≢true h)
result_other D.minus (M.integer_and a (M.integer_and b M.no_operand)) h = absurd (false≢true h)
result_other D.times (M.integer_and a (M.integer_and b M.no_operand)) h = absurd (false≢true h)
result_other D.word_plus (M.word_and w a (M.word_and x b M.no_operand)) h = absurd (false≢true h)
result_other D.word_minus (M.word_and w a (M.word_and x b M.no_operand)) h = absurd (false≢true h)
result_other D.word_times (M.word_and w a (M.word_and x b M.no_operand)) h = absurd (false≢true h)
result_other D.word_quotient (M.word_and w a (M.word_and x b M.no_operand)) h = absurd (false≢true h)
result_other D.word_remainder (M.word_and w a (M.word_and x b M.no_operand)) h = absurd (false≢true h)
result_other D.signed_quotient (M.word_and w a (M.word_and x b M.no_operand)) h = absurd (false≢true h)
result_other D.signed_remainder (M.word_and w a (M.word_and x b M.no_operand)) h = absurd (false≢true h)
result_other D.word_and (M.word_and w a (M.word_and x b M.no_operand)) h = absurd (false≢true h)
result_other D.word_or (M.word_and w a (M.word_and x b M.no_operand)) h = absurd (false≢true h)
result_other D.word_xor (M.word_and w a (M.word_and x b M.no_operand)) h = absurd (false≢true h)
result_other D.shifted_left (M.word_and w a (M.word_and x b M.no_operand)) h = absurd (false≢true h)
result_other D.shifted_right (M.word_and w a (M.word_and x b M.no_operand)) h = absurd (false≢true h)
result_other D.shifted_right_signed (M.word_and w a (M.word_and x b M.no_operand)) h = absurd (false≢true h)
result_other D.rotated_left (M.word_and w a (M.word_and x b M.no_operand)) h = absurd (false≢true h)
result_other D.rotated_right (M.word_and w a (M.word_and x b M.no_operand)) h = absurd (false≢true h)
result_other D.word_less (M.word_and w a (M.word_and x b M.no_operand)) h = absurd (false≢true h)
result_other D.word_less_or_equal (M.word_and w a (M.word_and x b M.no_operand)) h = absurd (false≢true h)
result_other D.signed_less (M.word_and w a (M.word_and x b M.no_operand)) h = absurd (false≢true h)
result_other D.signed_less_or_equal (M.word_and w a (M.word_and x b M.no_operand)) h = absurd (false≢true h)
result_other D.joined (M.word_and w a (M.word_and x b M.no_operand)) h = absurd (false≢true h)
result_other D.word_not (M.word_and w a M.no_operand) h = absurd (false≢true h)
result_other D.word_negated (M.word_and w a M.no_operand) h = absurd (false≢true h)
result_other D.as_integer (M.word_and w a M.no_operand) h = absurd (false≢true h)
result_other D.width_of (M.word_and w a M.no_operand) h = absurd (false≢true h)
result_other D.rotated_left (M.word_and w a (M.integer_and z M.no_operand)) h = absurd (false≢true h)
result_other D.rotated_right (M.word_and w a (M.integer_and z M.no_operand)) h = absurd (false≢true h)
result_other D.bits (M.integer_and (M.written_integer (pos n)) (M.integer_and (M.written_integer (pos m)) (M.word_and w a M.no_operand))) h = absurd (false≢true h)
result_other D.widened (M.integer_and (M.written_integer (pos n)) (M.word_and w a M.no_operand)) h = absurd (false≢true h)
result_other D.widened_signed (M.integer_and (M.written_integer (pos n)) (M.word_and w a M.no_operand)) h = absurd (false≢true h)
result_other D.as_word (M.integer_and (M.written_integer (pos n)) (M.integer_and z M.no_operand)) h = absurd (false≢true h)
result_other _ _ h = refl

-- truths alone are joined without facts that change nothing
abbrev pub are_facts : M.Operands → Bool
are_facts (M.fact_and a M.no_operand) = true
are_facts (M.fact_and a (M.fact_and b M.no_operand)) = true
are_facts _ = false

pub fact_other : (o : D.Operator) (of : M.Operands) → are_facts of ≡ false → E.fact_from o of ≡ M.fact_by o of
fact_other D.both (M.fact_and a (M.fact_and b M.no_operand)) h = absurd (false≢true (sym h))
fact_other D.one_of (M.fact_and a (M.fact_and b M.no_operand)) h = absurd (false≢true (sym h))
fact_other D.implied (M.fact_and a (M.fact_and b M.no_operand)) h = absurd (false≢true (sym h))
fact_other D.equals (M.fact_and a (M.fact_and b M.no_operand)) h = absurd (false≢true (sym h))
fact_other D.negation (M.fact_and a M.no_operand) h = absurd (false≢true (sym h))
fact_other _ _ h = refl
