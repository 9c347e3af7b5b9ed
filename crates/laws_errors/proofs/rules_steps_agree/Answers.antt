use Rattle.laws_errors.proofs.RuleLists.{rules_steps_agree_lem}
use Rattle.laws_errors.proofs.rules_steps_agree.Goals as goal

pub returns : goal.returns
returns c = rules_steps_agree_lem
