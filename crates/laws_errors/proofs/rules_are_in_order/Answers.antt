use Rattle.laws_errors.proofs.MetNames.{rules_are_in_order_lem}
use Rattle.laws_errors.proofs.rules_are_in_order.Goals as goal

pub returns : goal.returns
returns c = rules_are_in_order_lem
