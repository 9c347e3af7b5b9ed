use Rattle.model_code.proofs.NothingInPlace.{best_trees_bind_none_in_place_lem}
use Rattle.model_code.proofs.best_trees_bind_none_in_place.Goals as goal

pub returns : goal.returns
returns c = best_trees_bind_none_in_place_lem
