use Rattle.laws_sites.proofs.Rules.{well_typed_rules_demand_gates_lem}
use Rattle.laws_sites.proofs.well_typed_rules_demand_gates.Goals as goal

pub returns : goal.returns
returns c = well_typed_rules_demand_gates_lem
