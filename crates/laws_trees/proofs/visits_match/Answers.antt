use Rattle.laws_trees.proofs.Visits.{visits_match_lem}
use Rattle.laws_trees.proofs.visits_match.Goals as goal

pub returns : goal.returns
returns c = visits_match_lem
