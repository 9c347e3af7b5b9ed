use Rattle.laws_errors.proofs.RuleLimits.{rule_limits_are_first_lem}
use Rattle.laws_errors.proofs.rule_limits_are_first.Goals as goal

pub returns : goal.returns
returns c = rule_limits_are_first_lem
