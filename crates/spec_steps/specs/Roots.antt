-- What places are below of.
use Rattle.std.specs.Prelude.{Bool}
use Rattle.model_questions.specs.Formulas as M
use Rattle.model_questions.specs.Steps as S
use Rattle.spec_cases.specs.Namings.{Naming}
use Rattle.spec_steps.specs.declared.splitting.Root.{Root}
use Rattle.spec_steps.specs.declared.splitting.Root.TheVariants as R

abbrev pub root_in : Naming → Root → M.Place → Bool
root_in v R.Arguments = S.is_argument
root_in v (R.Outputs site) = S.is_output_of (v.site site)

-- all places, or none
abbrev pub plan : Bool → M.Place → Bool
plan flag at = flag
