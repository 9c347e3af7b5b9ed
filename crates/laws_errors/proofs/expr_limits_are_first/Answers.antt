use Rattle.laws_errors.proofs.ExprLimits.{expr_limits_are_first_lem}
use Rattle.laws_errors.proofs.expr_limits_are_first.Goals as goal

pub returns : goal.returns
returns c = expr_limits_are_first_lem
