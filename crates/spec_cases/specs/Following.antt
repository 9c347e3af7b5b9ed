-- What comes of each case, as one: the parts are what comes of each, under its guard.
use Rattle.std.specs.Prelude.{List, [], ◌∷◌}
use Rattle.model_questions.specs.Formulas.{Fact, one_of}
use Rattle.model_questions.specs.Forms.{Cases, nothing_said, joined_cases}

module _ {X : Type 0} where
  abbrev pub joined_parts : List (Cases X) → Cases X
  joined_parts [] = nothing_said
  joined_parts (p ∷ ps) = joined_cases p (joined_parts ps)

  abbrev pub then_parts : Fact → List (Cases X) → Cases X
  then_parts rest ps = record { cases = (joined_parts ps).cases; rest = one_of rest (joined_parts ps).rest }
