use Rattle.laws_typing.proofs.NoReadLimits.{elaborated_rules_are_within_limits_lem}
use Rattle.laws_typing.proofs.elaborated_rules_are_within_limits.Goals as goal

pub returns : goal.returns
returns c = elaborated_rules_are_within_limits_lem
