use Rattle.laws_sites.proofs.building.Listed.{listed_demands_stand_lem}
use Rattle.laws_sites.proofs.listed_demands_stand.Goals as goal

pub returns : goal.returns
returns c = listed_demands_stand_lem
