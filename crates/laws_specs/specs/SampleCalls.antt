-- An example where all premises of the law hold: twice 100 is 200 by a sum, and 201 is refused.
use Rattle.std.specs.Prelude.{◌≡◌, ℕ, pos, false, List, [], ◌∷◌, Some, None}
use Rattle.model.specs.rules.Values.{Value, truth, atom, no_value, value_and}
use Rattle.model.specs.rules.Meaning.{one, Literal, bool_literal, int_literal, Meaning, finite}
use Rattle.model.specs.rules.Outcome.{Outcome, ended}
use Rattle.model.specs.rules.Program.{Program, is_multi, rules_of}
use Rattle.model.specs.rules.Choice.{choice}
use Rattle.laws_typing.specs.WellTypedPrograms.{IsWellTypedProgram}
use Rattle.laws_specs.specs.Words.{a_word}
use Rattle.laws_specs.specs.WordOperators.{word_of}
use Rattle.laws_specs.specs.Specs.{Specs}
use Rattle.laws_specs.specs.Meets.{Atoms, MeetsSpecs, AnswersAsSaid}
use Rattle.laws_specs.specs.ConditionLaws.{AreValid, IsCalled}
use Rattle.laws_specs.specs.Samples.{x, adding, program_with, specs_with, doubled}

-- (rule (twice x) (add x x)), where `twice` provides the double and `add` the sum
abbrev pub sums : Program
sums = program_with (adding x x)

abbrev pub sum_specs : Specs
sum_specs = specs_with (doubled ∷ []) [] []

-- each atom stands for its number modulo 256
abbrev pub bytes_as : Atoms
bytes_as ty z = a_word 8 (word_of 8 z)

abbrev pub a_byte : ℕ → Value
a_byte n = atom 1 (pos n)

abbrev pub hundred : List Value
hundred = a_byte 100 ∷ []

-- a meaning that says of literals alone that they have the values that they write
abbrev pub as_written : Literal → Value
as_written (bool_literal b ty) = truth b
as_written (int_literal z ty) = atom ty z

abbrev pub written : Meaning
written = record { literals = λ l. Some (as_written l); constants = λ name. None; extractors = λ t v. None; pures = λ t vs. None; impures = λ t before. None }

-- `add` of 100 and 100 answers this
abbrev pub adding_to : ℕ → Meaning
adding_to n =
    finite
    (record {
      literals = [];
      constants = [];
      extractor_calls = [];
      pure_calls = ((1, value_and (a_byte 100) (value_and (a_byte 100) no_value)), one (a_byte n)) ∷ [];
      impure_calls = [];
    })

abbrev pub giving : ℕ → Outcome
giving n = record { calls = []; results = one (a_byte n) ∷ []; ending = ended }

-- all premises hold together, and the choice gives 200
pub record PremisesHold : Type 0 where
  pub well_typed : IsWellTypedProgram sums
  pub single : is_multi sums 0 ≡ false
  pub valid : AreValid sums sum_specs 0
  pub is_called : IsCalled sums sum_specs 0 bytes_as (adding_to 200) hundred (choice sums (adding_to 200) (rules_of sums 0) hundred).calls
  pub chosen : choice sums (adding_to 200) (rules_of sums 0) hundred ≡ giving 200

-- a meaning that answers 201 doesn't meet the specs, and 201 isn't what is provided
abbrev pub OthersAreRefused : Type 0
OthersAreRefused =
    (MeetsSpecs sum_specs bytes_as (adding_to 201) (giving 201).calls → ⊥)
    × AnswersAsSaid sums sum_specs 0 bytes_as hundred (giving 200)
    × (AnswersAsSaid sums sum_specs 0 bytes_as hundred (giving 201) → ⊥)
