-- What operators come to, as the model has it.
use Rattle.std.specs.Prelude.{ℕ, pos, ◌+◌, ◌-◌, not, ◌&&◌, nat_lt, Option, Some, None}
use Rattle.model_questions.specs.Formulas as M
use Rattle.laws_specs.specs.Words as D
use Rattle.model_questions.specs.Forms as MF
use Rattle.model_questions.specs.Evaluated as E
use Rattle.spec_cases.specs.declared.results.Outcome.{Outcome}
use Rattle.spec_cases.specs.declared.results.Outcome.TheVariants as R

abbrev pub outcome_view : Outcome → E.Result
outcome_view R.Nothing = E.no_result
outcome_view R.Truth = E.truth_result
outcome_view R.Integer = E.integer_result
outcome_view (R.Word width) = E.word_result width
outcome_view R.Unfollowed = E.unknown_result

-- a width or the place of a bit, where it is written
abbrev pub size_of : M.Integer → Option ℕ
size_of (M.written_integer (pos n)) = Some n
size_of _ = None

-- what gives a word of such a width
abbrev pub sized_result : Option ℕ → E.Result
sized_result (Some n) = E.word_result n
sized_result None = E.unknown_result

abbrev pub widened_result : Option ℕ → ℕ → E.Result
widened_result (Some n) width = E.word_where (not (nat_lt n width)) n
widened_result None width = E.unknown_result

abbrev pub bits_result : Option ℕ → Option ℕ → ℕ → E.Result
bits_result (Some high) (Some low) width = E.word_where (not (nat_lt high low) && nat_lt high width) ((high + 1) - low)
bits_result _ _ width = E.unknown_result

-- what an operator comes to at a width
abbrev pub at_size : D.Operator → ℕ → M.Operands → MF.Cases MF.Form
at_size o w rest = E.came_to o (M.integer_and (M.written_integer (pos w)) rest) (E.result o (M.integer_and (M.written_integer (pos w)) rest))
