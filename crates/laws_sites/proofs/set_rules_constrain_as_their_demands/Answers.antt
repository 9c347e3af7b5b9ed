use Rattle.laws_sites.proofs.overlaps.Totals.{set_rules_constrain_as_their_demands_lem}
use Rattle.laws_sites.proofs.set_rules_constrain_as_their_demands.Goals as goal

pub returns : goal.returns
returns c = set_rules_constrain_as_their_demands_lem
