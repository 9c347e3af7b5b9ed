use Rattle.laws_trees.proofs.OneAnswer.{building_gives_one_lem}
use Rattle.laws_trees.proofs.building_gives_one.Goals as goal

pub returns : goal.returns
returns c = building_gives_one_lem
