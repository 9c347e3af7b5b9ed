use Rattle.laws_errors.proofs.ExprPlaces.{expr_errors_are_placed_lem}
use Rattle.laws_errors.proofs.expr_errors_are_placed.Goals as goal

pub returns : goal.returns
returns c = expr_errors_are_placed_lem
