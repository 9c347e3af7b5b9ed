-- Rules at one depth: the function of typing is what reading makes where nothing is wrong, as at all depths.
use Rattle.laws_errors.specs.AllMade.{rule_reading}
use Rattle.laws_errors.specs.StepLaws.{RuleStepsAgree}
use Rattle.laws_errors.proofs.AgreeingDepths.{agrees_at_own}
use Rattle.laws_errors.proofs.RuleDepths.{rule_steps_agree_at_depths_lem}

pub rule_steps_agree_lem : RuleStepsAgree
rule_steps_agree_lem e templates d id r n s few = agrees_at_own n d _ (λ c. rule_reading e c id r s) few (rule_steps_agree_at_depths_lem e templates d id r n s)
