-- Of two rules of one priority that don't overlap, the demands of at most one hold.
use Rattle.std.proofs.Common.{[]}
use Rattle.model.specs.trees.SetRuns.{RulesHoldOnce}
use Rattle.model.proofs.Members.{member_from_get}
use Rattle.laws_trees.proofs.runs.RuleDemands.{demand_met}

pub rules_hold_once_lem : RulesHoldOnce
rules_hold_once_lem set w served none i j r q here there same h g =
    none i j r q here there same
    (λ s c d k l. served.apart r q s c d (member_from_get set.rules i r here) (member_from_get set.rules j q there) k l (demand_met w [] r s c h k) (demand_met w [] q s d g l))
