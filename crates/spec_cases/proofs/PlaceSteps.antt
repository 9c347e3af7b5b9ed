-- Outputs of calls that are told apart.
use Rattle.std.proofs.Common.{◌≡◌, ℕ, ◌&&◌, ap, ◌∙◌, eq-eqb}
use Rattle.std.specs.Bool.{◌==◌}
use Rattle.model_questions.specs.Formulas as M
use Rattle.spec_cases.specs.Namings.{Naming}
use Rattle.spec_cases.specs.Places.{AreApart}

pub output_same : (v : Naming) → AreApart v → (s t i j : ℕ) → M.place_eq (M.output_at (v.site s) i) (M.output_at (v.site t) j) ≡ ((s == t) && (i == j))
output_same v apart s t i j = ap (λ b. b && (i == j)) (apart s t)

-- of one call
pub output_here : (v : Naming) → AreApart v → (s t i j : ℕ) → s ≡ t → M.place_eq (M.output_at (v.site s) i) (M.output_at (v.site t) j) ≡ (i == j)
output_here v apart s t i j e = ap (λ b. b && (i == j)) (apart s t ∙ eq-eqb s t e)

pub ruleset output_steps = (output_same, output_here)
