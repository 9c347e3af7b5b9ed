-- An example of listed widths: a rule that is right where its argument has eight bits, and not where it may have sixteen.
use Rattle.std.specs.Prelude.{◌≡◌, ℕ, pos, true, false, List, [], ◌∷◌}
use Rattle.laws_specs.specs.Words.{an_integer, a_word, equals, width_of}
use Rattle.laws_specs.specs.Specs.{words_among, is_of_sort, SpecExpr, its_result, the_same, operation, no_spec_expr, spec_expr_and, Specs, no_unknown}
use Rattle.laws_specs.specs.Conditions.{condition, IsValid}
use Rattle.laws_specs.specs.Meets.{IsDenotation}
use Rattle.laws_specs.specs.Samples.{of_two, byte, x, rule_of, program_with, providing}
use Rattle.laws_specs.specs.SampleCalls.{bytes_as}

-- (= (widthof result) 8)
abbrev pub has_eight_bits : SpecExpr
has_eight_bits = operation equals (of_two (operation width_of (spec_expr_and its_result no_spec_expr)) (the_same (an_integer (pos 8))))

-- words of these widths, and `twice` provides one of eight bits
abbrev pub among : List ℕ → Specs
among widths = record { models = (1, words_among widths) ∷ []; constants = []; unknowns = no_unknown; unknown_sorts = []; terms = (0, providing (has_eight_bits ∷ [])) ∷ [] }

-- the condition of (rule (twice x) x)
abbrev pub IsRightAmong : List ℕ → Type 0
IsRightAmong widths = IsValid (program_with x) (among widths) (condition (program_with x) (rule_of x))

pub record WidthsAreListed : Type 0 where
  pub listed : is_of_sort (words_among (8 ∷ (16 ∷ []))) (a_word 16 300) ≡ true
  pub not_listed : is_of_sort (words_among (8 ∷ (16 ∷ []))) (a_word 12 300) ≡ false
  pub no_word : is_of_sort (words_among (8 ∷ (16 ∷ []))) (an_integer (pos 8)) ≡ false
  pub none_listed : is_of_sort (words_among []) (byte 1) ≡ false
  pub right : IsRightAmong (8 ∷ [])
  pub wrong : IsRightAmong (8 ∷ (16 ∷ [])) → ⊥
  pub bytes : IsDenotation (program_with x) (among (8 ∷ (16 ∷ []))) bytes_as
  pub no_bytes : IsDenotation (program_with x) (among (16 ∷ [])) bytes_as → ⊥
