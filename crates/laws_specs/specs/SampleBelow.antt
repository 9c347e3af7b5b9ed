-- All premises of the law by priority hold together: the lower rule, which is wrong alone, gives 20 for B.
use Rattle.std.specs.Prelude.{◌≡◌, ℕ, false, List, [], ◌∷◌}
use Rattle.model.specs.rules.Choice.{choice}
use Rattle.model.specs.rules.Program.{is_multi, rules_of}
use Rattle.model.specs.rules.Values.{Value, of_variant, no_value}
use Rattle.laws_typing.specs.WellTypedPrograms.{IsWellTypedProgram}
use Rattle.laws_specs.specs.Meets.{AreNumbers}
use Rattle.laws_specs.specs.ConditionLaws.{AreValidBelow, IsCalled}
use Rattle.laws_specs.specs.SampleCalls.{bytes_as, giving, written}
use Rattle.laws_specs.specs.SamplePriorities.{codes, code_specs}

abbrev pub one_of_letter : ℕ → List Value
one_of_letter i = of_variant 2 i no_value ∷ []

-- and the rule above gives 10 for A
pub record PriorityPremisesHold : Type 0 where
  pub well_typed : IsWellTypedProgram codes
  pub single : is_multi codes 2 ≡ false
  pub valid : AreValidBelow codes code_specs 2
  pub numbers : AreNumbers bytes_as
  pub called_a : IsCalled codes code_specs 2 bytes_as written (one_of_letter 0) []
  pub called_b : IsCalled codes code_specs 2 bytes_as written (one_of_letter 1) []
  pub chosen_a : choice codes written (rules_of codes 2) (one_of_letter 0) ≡ giving 10
  pub chosen_b : choice codes written (rules_of codes 2) (one_of_letter 1) ≡ giving 20
