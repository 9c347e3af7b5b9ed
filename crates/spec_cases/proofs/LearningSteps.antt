-- What integers and operands that are one tell of places.
use Rattle.std.proofs.Common.{◌≡◌, ℕ, ℤ, Bool, true, false, List, inl, inr, refl, sym, ap, ◌∙◌}
use Rattle.std.proofs.lemmas.Bool.{false≢true}
use Rattle.laws_specs.specs.Words as D
use Rattle.model_questions.specs.Formulas as M
use Rattle.model_questions.specs.Evaluated as E
use Rattle.model_questions.specs.Questions as Q
use Rattle.spec_cases.specs.declared.formulas.Operand.{Operand}
use Rattle.spec_cases.specs.declared.shapes.Shape.{Shape}
use Rattle.spec_cases.specs.declared.shapes.Shape.TheVariants as S
use Rattle.spec_cases.specs.Namings.{Naming, is_plain_integer, operands_of}
use Rattle.spec_cases.specs.Shapes.{shape_of, of_shape}
use Rattle.spec_cases.proofs.ShapedOperands.{is_others, is_other, shaped}

-- 1. an integer that is made of others tells nothing
first_other : (z b : M.Integer) (k : E.Known) → is_plain_integer z ≡ false → Q.same_learned z b k ≡ k
first_other (M.written_integer n) b k h = absurd (false≢true (sym h))
first_other (M.integer_at at) b k h = absurd (false≢true (sym h))
first_other (M.integer_by o of) b k h = refl
first_other (M.integer_answered f of) b k h = refl
first_other (M.either_integer f x y) b k h = refl

at_other : (at : M.Place) (z : M.Integer) (k : E.Known) → is_plain_integer z ≡ false → Q.same_learned (M.integer_at at) z k ≡ k
at_other at (M.written_integer n) k h = absurd (false≢true (sym h))
at_other at (M.integer_at p) k h = absurd (false≢true (sym h))
at_other at (M.integer_by o of) k h = refl
at_other at (M.integer_answered f of) k h = refl
at_other at (M.either_integer f x y) k h = refl

written_other : (y : ℤ) (z : M.Integer) (k : E.Known) → is_plain_integer z ≡ false → Q.same_learned (M.written_integer y) z k ≡ k
written_other y (M.written_integer n) k h = absurd (false≢true (sym h))
written_other y (M.integer_at p) k h = absurd (false≢true (sym h))
written_other y (M.integer_by o of) k h = refl
written_other y (M.integer_answered f of) k h = refl
written_other y (M.either_integer f a b) k h = refl

module _ (v : Naming) where
  pub first_made : (n : ℕ) (b : M.Integer) (k : E.Known) → Q.same_learned (v.integer n) b k ≡ k
  first_made n b k = first_other (v.integer n) b k (v.made_integers n)

  pub at_made : (at : M.Place) (n : ℕ) (k : E.Known) → Q.same_learned (M.integer_at at) (v.integer n) k ≡ k
  at_made at n k = at_other at (v.integer n) k (v.made_integers n)

  pub written_made : (y : ℤ) (n : ℕ) (k : E.Known) → Q.same_learned (M.written_integer y) (v.integer n) k ≡ k
  written_made y n k = written_other y (v.integer n) k (v.made_integers n)

pub ruleset integer_steps = (first_made, at_made, written_made)

-- 2. operands by their shape
abbrev pub is_of_integers : Shape → Bool
is_of_integers (S.OneFact a) = false
is_of_integers (S.TwoFacts a b) = false
is_of_integers (S.TwoIntegers a b) = true
is_of_integers (S.OneWord w a) = false
is_of_integers (S.TwoWords w a x b) = false
is_of_integers (S.WordInteger w a z) = false
is_of_integers (S.IntegerWord z w a) = false
is_of_integers (S.TwoIntegersWord y z w a) = false
is_of_integers S.Others = false

abbrev are_integers : M.Operands → Bool
are_integers (M.integer_and a (M.integer_and b M.no_operand)) = true
are_integers _ = false

equals_other : (of : M.Operands) (k : E.Known) → are_integers of ≡ false → Q.equals_learned D.equals of k ≡ k
equals_other (M.integer_and a (M.integer_and b M.no_operand)) k h = absurd (false≢true (sym h))
equals_other _ k h = refl

other_no_integers : (of : M.Operands) → is_other of ≡ true → are_integers of ≡ false
other_no_integers (M.integer_and a (M.integer_and b M.no_operand)) h = absurd (false≢true h)
other_no_integers _ h = refl

module _ (v : Naming) where
  shape_no_integers : (s : Shape) → is_of_integers s ≡ false → are_integers (of_shape v s) ≡ false
  shape_no_integers (S.OneFact a) h = refl
  shape_no_integers (S.TwoFacts a b) h = refl
  shape_no_integers (S.TwoIntegers a b) h = absurd (false≢true (sym h))
  shape_no_integers (S.OneWord w a) h = refl
  shape_no_integers (S.TwoWords w a x b) h = refl
  shape_no_integers (S.WordInteger w a z) h = refl
  shape_no_integers (S.IntegerWord z w a) h = refl
  shape_no_integers (S.TwoIntegersWord y z w a) h = refl
  shape_no_integers S.Others h = refl

  no_integers : (of : List Operand) (s : Shape) → shape_of of ≡ s → is_of_integers s ≡ false → are_integers (operands_of v of) ≡ false
  no_integers of s e h = elim (shaped v of) [ inl x ↦ other_no_integers (operands_of v of) x.1 | inr y ↦ ap are_integers (y ∙ ap (of_shape v) e) ∙ shape_no_integers s h ]

  pub operands_plain : (of : List Operand) (s : Shape) (k : E.Known) → shape_of of ≡ s → is_of_integers s ≡ false → Q.equals_learned D.equals (operands_of v of) k ≡ k
  operands_plain of s k e h = equals_other (operands_of v of) k (no_integers of s e h)

  pub shape_operands : (of : List Operand) (s : Shape) (k : E.Known) → shape_of of ≡ s → is_others s ≡ false → Q.equals_learned D.equals (operands_of v of) k ≡ Q.equals_learned D.equals (of_shape v s) k
  shape_operands of s k e h =
      elim (shaped v of) [ inl x ↦ absurd (false≢true (sym h ∙ ap is_others (sym e) ∙ x.0)) | inr y ↦ ap (λ l. Q.equals_learned D.equals l k) (y ∙ ap (of_shape v) e) ]

pub ruleset operand_steps = (operands_plain, shape_operands)
