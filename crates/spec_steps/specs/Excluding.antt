-- That tests are met, all of them.
use Rattle.std.specs.Prelude.{true, List, [], ◌∷◌}
use Rattle.model.specs.rules.Program.{Program}
use Rattle.model.specs.sites.Sites.{Constraint, SiteTerm}
use Rattle.laws_specs.specs.Conditions.{Condition}
use Rattle.laws_specs.specs.Specs.{Specs}
use Rattle.laws_questions.specs.BelowLaws.{met_fact}
use Rattle.model_questions.specs.Formulas.{Fact, known, both_of}

abbrev pub all_met : Program → Specs → Condition → List (SiteTerm × Constraint) → Fact
all_met p specs c [] = known true
all_met p specs c (d ∷ ds) = both_of (met_fact p specs c d.0 d.1) (all_met p specs c ds)
