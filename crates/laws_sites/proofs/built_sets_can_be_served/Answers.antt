use Rattle.laws_sites.proofs.built.ServedSets.{can_be_served_lem}
use Rattle.laws_sites.proofs.built_sets_can_be_served.Goals as goal

pub returns : goal.returns
returns c = can_be_served_lem
