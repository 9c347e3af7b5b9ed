use Rattle.laws_errors.proofs.ExprDepths.{expr_steps_agree_at_depths_lem}
use Rattle.laws_errors.proofs.expr_steps_agree_at_depths.Goals as goal

pub returns : goal.returns
returns c = expr_steps_agree_at_depths_lem
