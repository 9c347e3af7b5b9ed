-- Steps of which places are split.
use Rattle.std.proofs.Common.{◌≡◌, ℕ}
use Rattle.std.specs.Bool.{◌==◌}
use Rattle.model_questions.specs.Formulas as M
use Rattle.model_questions.specs.Steps as S
use Rattle.spec_cases.specs.Namings.{Naming}
use Rattle.spec_cases.specs.Places.{AreApart}

pub output_told : (v : Naming) → AreApart v → (s t i : ℕ) → S.is_output_of (v.site t) (M.output_at (v.site s) i) ≡ (s == t)
output_told v apart s t i = apart s t

pub ruleset root_steps = (output_told)
