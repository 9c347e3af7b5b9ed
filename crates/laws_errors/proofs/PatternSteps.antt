-- Patterns at one depth: the function of typing is what reading makes where nothing is wrong, as at all depths.
use Rattle.model.specs.lists.Elaborated.{elaborated_pattern}
use Rattle.laws_errors.specs.StepLaws.{PatternStepsAgree}
use Rattle.laws_errors.proofs.AgreeingDepths.{agrees_at_own}
use Rattle.laws_errors.proofs.PatternDepths.{pattern_steps_agree_at_depths_lem}

pub pattern_steps_agree_lem : PatternStepsAgree
pattern_steps_agree_lem e multi templates d p ty n s few = agrees_at_own n d _ (λ c. elaborated_pattern e multi c p ty s) few (pattern_steps_agree_at_depths_lem e multi templates d p ty n s)
