use Rattle.laws_sites.proofs.built.WellBuiltSets.{built_rules_demand_gates_lem}
use Rattle.laws_sites.proofs.built_rules_demand_gates.Goals as goal

pub returns : goal.returns
returns c = built_rules_demand_gates_lem
