-- What building gives of samples: the set of the one term with rules, and what is reported of a rule that is left out.
use Rattle.std.specs.Prelude.{◌∷◌, [], List}
use Rattle.model.specs.claims.Layers.{BuildAnswers}
use Rattle.model.specs.sites.Closure.{conflict}
use Rattle.model.specs.sites.Overlap.{RuleReport, not_reached}
use Rattle.laws_examples.specs.Extract.{extract_program, extract_set}
use Rattle.laws_examples.specs.LeftoverSites.{left_over_program, left_over_set}
use Rattle.laws_examples.specs.SetForms.{is_byte}
use Rattle.laws_examples.specs.Written.{at}

-- of `extract` its set, and nothing
abbrev pub ExtractIsAnswered : Type 0
ExtractIsAnswered = BuildAnswers extract_program ((1, extract_set) ∷ []) []

-- the first rule of `left_over` asks its argument to be 1 and 2
abbrev pub one_or_two_asked : List RuleReport
one_or_two_asked = not_reached (conflict (is_byte 1) (is_byte 2)) (at 5) ∷ []

-- its set, and that report; not so without the set, of another term, or without the report
pub record LeftOverIsAnswered : Type 0 where
  pub answered : BuildAnswers left_over_program ((2, left_over_set) ∷ []) one_or_two_asked
  pub without_set : BuildAnswers left_over_program [] one_or_two_asked → ⊥
  pub other_term : BuildAnswers left_over_program ((1, left_over_set) ∷ []) one_or_two_asked → ⊥
  pub without_report : BuildAnswers left_over_program ((2, left_over_set) ∷ []) [] → ⊥
