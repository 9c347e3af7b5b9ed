-- An example of unknown functions: a rule that is right by the sort of one, whatever it answers.
use Rattle.std.specs.Prelude.{ℕ, pos, List, [], ◌∷◌}
use Rattle.laws_specs.specs.Words.{an_integer, equals, width_of}
use Rattle.laws_specs.specs.Specs.{words, Unknowns, UnknownSort, SpecExpr, its_result, the_same, operation, unknown, no_spec_expr, spec_expr_and, Specs, no_unknown}
use Rattle.laws_specs.specs.Conditions.{condition, IsValid}
use Rattle.laws_specs.specs.Meets.{IsDenotation}
use Rattle.laws_specs.specs.Samples.{of_two, byte, x, rule_of, program_with, specs_with}
use Rattle.laws_specs.specs.SampleCalls.{bytes_as}

-- (= (widthof (f result)) 8)
abbrev pub answers_a_byte : SpecExpr
answers_a_byte = operation equals (of_two (operation width_of (spec_expr_and (unknown 0 (spec_expr_and its_result no_spec_expr)) no_spec_expr)) (the_same (an_integer (pos 8))))

abbrev pub byte_to_byte : UnknownSort
byte_to_byte = record { takes = words 8 ∷ []; gives = words 8 }

abbrev pub of_bytes : List (ℕ × UnknownSort)
of_bytes = (0, byte_to_byte) ∷ []

-- `twice` provides that
abbrev pub by_unknown : Unknowns → List (ℕ × UnknownSort) → Specs
by_unknown g sorts = record (specs_with (answers_a_byte ∷ []) [] []) { unknowns = g; unknown_sorts = sorts }

-- the condition of (rule (twice x) x)
abbrev pub IsRightBy : Unknowns → List (ℕ × UnknownSort) → Type 0
IsRightBy g sorts = IsValid (program_with x) (by_unknown g sorts) (condition (program_with x) (rule_of x))

abbrev pub answering : ℕ → Unknowns
answering n f xs = byte n

abbrev pub IsDenotedBy : Unknowns → Type 0
IsDenotedBy g = IsDenotation (program_with x) (by_unknown g of_bytes) bytes_as

-- a function that answers a truth isn't of the sort, nor is one that answers 256 in eight bits
pub record UnknownsHaveSorts : Type 0 where
  pub sorted : (g : Unknowns) → IsRightBy g of_bytes
  pub unsorted : IsRightBy no_unknown [] → ⊥
  pub answers : IsDenotedBy (answering 7)
  pub truths : IsDenotedBy no_unknown → ⊥
  pub past_width : IsDenotedBy (answering 256) → ⊥
