use Rattle.laws_sites.proofs.overlaps.SetRules.{set_rules_overlap_as_their_demands_lem}
use Rattle.laws_sites.proofs.set_rules_overlap_as_their_demands.Goals as goal

pub returns : goal.returns
returns c = set_rules_overlap_as_their_demands_lem
