use Rattle.laws_trees.proofs.ClosedAlike.{closed_demands_hold_alike_lem}
use Rattle.laws_trees.proofs.closed_demands_hold_alike.Goals as goal

pub returns : goal.returns
returns c = closed_demands_hold_alike_lem
