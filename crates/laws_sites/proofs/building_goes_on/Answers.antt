use Rattle.laws_sites.proofs.building.SetsSoFar.{building_goes_on_lem}
use Rattle.laws_sites.proofs.building_goes_on.Goals as goal

pub returns : goal.returns
returns c = building_goes_on_lem
