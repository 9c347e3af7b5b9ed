use Rattle.laws_errors.proofs.ToldRules.{errors_tell_rules_lem}
use Rattle.laws_errors.proofs.errors_tell_rules.Goals as goal

pub returns : goal.returns
returns c = errors_tell_rules_lem
