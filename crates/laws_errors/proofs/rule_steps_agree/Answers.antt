use Rattle.laws_errors.proofs.RuleSteps.{rule_steps_agree_lem}
use Rattle.laws_errors.proofs.rule_steps_agree.Goals as goal

pub returns : goal.returns
returns c = rule_steps_agree_lem
