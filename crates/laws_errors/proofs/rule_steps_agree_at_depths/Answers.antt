use Rattle.laws_errors.proofs.RuleDepths.{rule_steps_agree_at_depths_lem}
use Rattle.laws_errors.proofs.rule_steps_agree_at_depths.Goals as goal

pub returns : goal.returns
returns c = rule_steps_agree_at_depths_lem
