use Rattle.laws_trees.proofs.choosing.OtherRules.{others_in_programs_can_be_taken_away_lem}
use Rattle.laws_trees.proofs.others_in_programs_can_be_taken_away.Goals as goal

pub returns : goal.returns
returns c = others_in_programs_can_be_taken_away_lem
