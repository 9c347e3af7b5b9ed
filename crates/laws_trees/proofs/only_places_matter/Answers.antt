use Rattle.laws_trees.proofs.picks.SamePlaces.{only_places_matter_lem}
use Rattle.laws_trees.proofs.only_places_matter.Goals as goal

pub returns : goal.returns
returns c = only_places_matter_lem
