-- What operators come to that take a width, by whether it is written; and by the shape of operands.
use Rattle.std.proofs.Common.{◌≡◌, ℕ, pos, negsuc, false, List, None, inl, inr, refl, sym, ap, ◌∙◌}
use Rattle.std.proofs.lemmas.Bool.{false≢true}
use Rattle.laws_specs.specs.Words as D
use Rattle.model_questions.specs.Formulas as M
use Rattle.model_questions.specs.Evaluated as E
use Rattle.spec_cases.specs.declared.formulas.Operand.{Operand}
use Rattle.spec_cases.specs.declared.shapes.Shape.{Shape}
use Rattle.spec_cases.specs.declared.shapes.Shape.TheVariants as S
use Rattle.spec_cases.specs.Namings.{Naming, is_plain_integer, operands_of}
use Rattle.spec_cases.specs.Results.{size_of, sized_result, widened_result, bits_result}
use Rattle.spec_cases.specs.Shapes.{shape_of, of_shape}
use Rattle.spec_cases.proofs.ShapedOperands.{is_others, is_other, shaped, result_other}

pub size_made : (z : M.Integer) → is_plain_integer z ≡ false → size_of z ≡ None
size_made (M.written_integer z) h = absurd (false≢true (sym h))
size_made (M.integer_at at) h = refl
size_made (M.integer_by o of) h = refl
size_made (M.integer_answered f of) h = refl
size_made (M.either_integer f a b) h = refl

pub as_word_sized : (z y : M.Integer) → E.result D.as_word (M.integer_and z (M.integer_and y M.no_operand)) ≡ sized_result (size_of z)
as_word_sized (M.written_integer (pos n)) y = refl
as_word_sized (M.written_integer (negsuc n)) y = refl
as_word_sized (M.integer_at n) y = refl
as_word_sized (M.integer_by n nf) y = refl
as_word_sized (M.integer_answered n nf) y = refl
as_word_sized (M.either_integer n nf ng) y = refl

pub widened_sized : (z : M.Integer) (w : ℕ) (a : M.Word) → E.result D.widened (M.integer_and z (M.word_and w a M.no_operand)) ≡ widened_result (size_of z) w
widened_sized (M.written_integer (pos n)) w a = refl
widened_sized (M.written_integer (negsuc n)) w a = refl
widened_sized (M.integer_at n) w a = refl
widened_sized (M.integer_by n nf) w a = refl
widened_sized (M.integer_answered n nf) w a = refl
widened_sized (M.either_integer n nf ng) w a = refl

pub widened_signed_sized : (z : M.Integer) (w : ℕ) (a : M.Word) → E.result D.widened_signed (M.integer_and z (M.word_and w a M.no_operand)) ≡ widened_result (size_of z) w
widened_signed_sized (M.written_integer (pos n)) w a = refl
widened_signed_sized (M.written_integer (negsuc n)) w a = refl
widened_signed_sized (M.integer_at n) w a = refl
widened_signed_sized (M.integer_by n nf) w a = refl
widened_signed_sized (M.integer_answered n nf) w a = refl
widened_signed_sized (M.either_integer n nf ng) w a = refl

pub ruleset widening_sized = (widened_sized, widened_signed_sized)

pub bits_sized : (y z : M.Integer) (w : ℕ) (a : M.Word) → E.result D.bits (M.integer_and y (M.integer_and z (M.word_and w a M.no_operand))) ≡ bits_result (size_of y) (size_of z) w
bits_sized (M.written_integer (pos n)) (M.written_integer (pos m)) w a = refl
bits_sized (M.written_integer (pos n)) (M.written_integer (negsuc m)) w a = refl
bits_sized (M.written_integer (pos n)) (M.integer_at m) w a = refl
bits_sized (M.written_integer (pos n)) (M.integer_by m mf) w a = refl
bits_sized (M.written_integer (pos n)) (M.integer_answered m mf) w a = refl
bits_sized (M.written_integer (pos n)) (M.either_integer m mf mg) w a = refl
bits_sized (M.written_integer (negsuc n)) (M.written_integer (pos m)) w a = refl
bits_sized (M.written_integer (negsuc n)) (M.written_integer (negsuc m)) w a = refl
bits_sized (M.written_integer (negsuc n)) (M.integer_at m) w a = refl
bits_sized (M.written_integer (negsuc n)) (M.integer_by m mf) w a = refl
bits_sized (M.written_integer (negsuc n)) (M.integer_answered m mf) w a = refl
bits_sized (M.written_integer (negsuc n)) (M.either_integer m mf mg) w a = refl
bits_sized (M.integer_at n) (M.written_integer (pos m)) w a = refl
bits_sized (M.integer_at n) (M.written_integer (negsuc m)) w a = refl
bits_sized (M.integer_at n) (M.integer_at m) w a = refl
bits_sized (M.integer_at n) (M.integer_by m mf) w a = refl
bits_sized (M.integer_at n) (M.integer_answered m mf) w a = refl
bits_sized (M.integer_at n) (M.either_integer m mf mg) w a = refl
bits_sized (M.integer_by n nf) (M.written_integer (pos m)) w a = refl
bits_sized (M.integer_by n nf) (M.written_integer (negsuc m)) w a = refl
bits_sized (M.integer_by n nf) (M.integer_at m) w a = refl
bits_sized (M.integer_by n nf) (M.integer_by m mf) w a = refl
bits_sized (M.integer_by n nf) (M.integer_answered m mf) w a = refl
bits_sized (M.integer_by n nf) (M.either_integer m mf mg) w a = refl
bits_sized (M.integer_answered n nf) (M.written_integer (pos m)) w a = refl
bits_sized (M.integer_answered n nf) (M.written_integer (negsuc m)) w a = refl
bits_sized (M.integer_answered n nf) (M.integer_at m) w a = refl
bits_sized (M.integer_answered n nf) (M.integer_by m mf) w a = refl
bits_sized (M.integer_answered n nf) (M.integer_answered m mf) w a = refl
bits_sized (M.integer_answered n nf) (M.either_integer m mf mg) w a = refl
bits_sized (M.either_integer n nf ng) (M.written_integer (pos m)) w a = refl
bits_sized (M.either_integer n nf ng) (M.written_integer (negsuc m)) w a = refl
bits_sized (M.either_integer n nf ng) (M.integer_at m) w a = refl
bits_sized (M.either_integer n nf ng) (M.integer_by m mf) w a = refl
bits_sized (M.either_integer n nf ng) (M.integer_answered m mf) w a = refl
bits_sized (M.either_integer n nf ng) (M.either_integer m mf mg) w a = refl

-- by the shape
pub shape_result : (v : Naming) (o : D.Operator) (of : List Operand) (s : Shape) → shape_of of ≡ s → is_others s ≡ false → E.result o (operands_of v of) ≡ E.result o (of_shape v s)
shape_result v o of s e h = elim (shaped v of) [ inl x ↦ absurd (false≢true (sym h ∙ ap is_others (sym e) ∙ x.0)) | inr y ↦ ap (E.result o) (y ∙ ap (of_shape v) e) ]

-- those of the other shape
pub others_result : (v : Naming) (o : D.Operator) (of : List Operand) → shape_of of ≡ S.Others → E.result o (operands_of v of) ≡ E.unknown_result
others_result v o of e = result_other o (operands_of v of) (elim (shaped v of) [ inl x ↦ x.1 | inr y ↦ ap is_other (y ∙ ap (of_shape v) e) ])

pub ruleset result_steps = (shape_result, others_result)
