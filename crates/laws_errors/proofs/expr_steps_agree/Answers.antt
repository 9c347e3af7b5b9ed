use Rattle.laws_errors.proofs.ExprSteps.{expr_steps_agree_lem}
use Rattle.laws_errors.proofs.expr_steps_agree.Goals as goal

pub returns : goal.returns
returns c = expr_steps_agree_lem
