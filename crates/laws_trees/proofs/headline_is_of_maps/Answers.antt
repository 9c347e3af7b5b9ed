use Rattle.laws_trees.proofs.FiniteAndTotal.{headline_is_of_maps_lem}
use Rattle.laws_trees.proofs.headline_is_of_maps.Goals as goal

pub returns : goal.returns
returns c = headline_is_of_maps_lem
