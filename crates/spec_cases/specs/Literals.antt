-- Values that are written.
use Rattle.std.specs.Prelude.{List, [], ◌∷◌, Option, Some, None}
use Rattle.model.specs.rules.Outcome.{then_option}
use Rattle.laws_specs.specs.Words as D
use Rattle.spec_cases.specs.declared.literals.Literal.{Literal}
use Rattle.spec_cases.specs.declared.literals.Literal.TheVariants as T
use Rattle.spec_cases.specs.declared.literals.LiteralShape.{LiteralShape}
use Rattle.spec_cases.specs.declared.literals.LiteralShape.TheVariants as S

abbrev pub literal_view : Literal → D.Denoted
literal_view (T.Truth b) = D.a_truth b
literal_view (T.Integer z) = D.an_integer z
literal_view (T.Word w n) = D.a_word w n

abbrev pub literal_views : List Literal → D.DenotedList
literal_views [] = D.no_denoted
literal_views (x ∷ xs) = D.denoted_and (literal_view x) (literal_views xs)

-- one before others, where all are written
abbrev pub with_literal : Option Literal → Option D.DenotedList → Option D.DenotedList
with_literal None o = None
with_literal (Some x) o = then_option o (λ xs. Some (D.denoted_and (literal_view x) xs))

abbrev pub single_literal : Literal → LiteralShape
single_literal (T.Truth a) = S.OneTruth a
single_literal (T.Integer z) = S.Others
single_literal (T.Word w a) = S.OneWord w a

abbrev pub pair_literal : Literal → Literal → LiteralShape
pair_literal (T.Truth a) (T.Truth b) = S.TwoTruths a b
pair_literal (T.Integer y) (T.Integer z) = S.TwoIntegers y z
pair_literal (T.Integer y) (T.Word w a) = S.IntegerWord y w a
pair_literal (T.Word w a) (T.Integer z) = S.WordInteger w a z
pair_literal (T.Word w a) (T.Word x b) = S.TwoWords w a x b
pair_literal _ _ = S.Others

abbrev pub triple_literal : Literal → Literal → Literal → LiteralShape
triple_literal (T.Integer y) (T.Integer z) (T.Word w a) = S.TwoIntegersWord y z w a
triple_literal _ _ _ = S.Others

abbrev pub literal_shape : List Literal → LiteralShape
literal_shape [] = S.Others
literal_shape (a ∷ []) = single_literal a
literal_shape (a ∷ (b ∷ [])) = pair_literal a b
literal_shape (a ∷ (b ∷ (c ∷ []))) = triple_literal a b c
literal_shape (a ∷ (b ∷ (c ∷ (d ∷ more)))) = S.Others

-- the values of a shape; of others there are none
abbrev pub of_literals : LiteralShape → D.DenotedList
of_literals (S.OneTruth a) = D.denoted_and (D.a_truth a) D.no_denoted
of_literals (S.TwoTruths a b) = D.denoted_and (D.a_truth a) (D.denoted_and (D.a_truth b) D.no_denoted)
of_literals (S.TwoIntegers y z) = D.denoted_and (D.an_integer y) (D.denoted_and (D.an_integer z) D.no_denoted)
of_literals (S.OneWord w a) = D.denoted_and (D.a_word w a) D.no_denoted
of_literals (S.TwoWords w a x b) = D.denoted_and (D.a_word w a) (D.denoted_and (D.a_word x b) D.no_denoted)
of_literals (S.WordInteger w a z) = D.denoted_and (D.a_word w a) (D.denoted_and (D.an_integer z) D.no_denoted)
of_literals (S.IntegerWord z w a) = D.denoted_and (D.an_integer z) (D.denoted_and (D.a_word w a) D.no_denoted)
of_literals (S.TwoIntegersWord y z w a) = D.denoted_and (D.an_integer y) (D.denoted_and (D.an_integer z) (D.denoted_and (D.a_word w a) D.no_denoted))
of_literals S.Others = D.no_denoted
