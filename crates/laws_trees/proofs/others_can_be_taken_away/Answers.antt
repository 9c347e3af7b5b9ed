use Rattle.laws_trees.proofs.choosing.OtherRules.{others_can_be_taken_away_lem}
use Rattle.laws_trees.proofs.others_can_be_taken_away.Goals as goal

pub returns : goal.returns
returns c = others_can_be_taken_away_lem
