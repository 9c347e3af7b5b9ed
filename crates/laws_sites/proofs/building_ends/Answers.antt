use Rattle.laws_sites.proofs.building.SetsSoFar.{building_ends_lem}
use Rattle.laws_sites.proofs.building_ends.Goals as goal

pub returns : goal.returns
returns c = building_ends_lem
