-- What kinds of operands there are.
use Rattle.std.specs.Prelude.{List, [], ◌∷◌}
use Rattle.model_questions.specs.Formulas as M
use Rattle.spec_cases.specs.declared.formulas.Operand.{Operand}
use Rattle.spec_cases.specs.declared.formulas.Operand.TheVariants as O
use Rattle.spec_cases.specs.declared.shapes.Shape.{Shape}
use Rattle.spec_cases.specs.declared.shapes.Shape.TheVariants as S
use Rattle.spec_cases.specs.Namings.{Naming, word_of, integer_of, fact_of}

abbrev pub single_shape : Operand → Shape
single_shape (O.Fact f) = S.OneFact f
single_shape (O.Integer z) = S.Others
single_shape (O.Word w t) = S.OneWord w t

abbrev pub pair_shape : Operand → Operand → Shape
pair_shape (O.Fact f) (O.Fact g) = S.TwoFacts f g
pair_shape (O.Integer y) (O.Integer z) = S.TwoIntegers y z
pair_shape (O.Integer y) (O.Word w t) = S.IntegerWord y w t
pair_shape (O.Word w t) (O.Integer z) = S.WordInteger w t z
pair_shape (O.Word w t) (O.Word x u) = S.TwoWords w t x u
pair_shape _ _ = S.Others

abbrev pub triple_shape : Operand → Operand → Operand → Shape
triple_shape (O.Integer y) (O.Integer z) (O.Word w t) = S.TwoIntegersWord y z w t
triple_shape _ _ _ = S.Others

abbrev pub shape_of : List Operand → Shape
shape_of [] = S.Others
shape_of (a ∷ []) = single_shape a
shape_of (a ∷ (b ∷ [])) = pair_shape a b
shape_of (a ∷ (b ∷ (c ∷ []))) = triple_shape a b c
shape_of (a ∷ (b ∷ (c ∷ (d ∷ more)))) = S.Others

-- the operands of a shape; of others there are none
module _ (v : Naming) where
  abbrev pub of_shape : Shape → M.Operands
  of_shape (S.OneFact f) = M.fact_and (fact_of v f) M.no_operand
  of_shape (S.TwoFacts f g) = M.fact_and (fact_of v f) (M.fact_and (fact_of v g) M.no_operand)
  of_shape (S.TwoIntegers y z) = M.integer_and (integer_of v y) (M.integer_and (integer_of v z) M.no_operand)
  of_shape (S.OneWord w t) = M.word_and w (word_of v t) M.no_operand
  of_shape (S.TwoWords w t x u) = M.word_and w (word_of v t) (M.word_and x (word_of v u) M.no_operand)
  of_shape (S.WordInteger w t z) = M.word_and w (word_of v t) (M.integer_and (integer_of v z) M.no_operand)
  of_shape (S.IntegerWord z w t) = M.integer_and (integer_of v z) (M.word_and w (word_of v t) M.no_operand)
  of_shape (S.TwoIntegersWord y z w t) = M.integer_and (integer_of v y) (M.integer_and (integer_of v z) (M.word_and w (word_of v t) M.no_operand))
  of_shape S.Others = M.no_operand
