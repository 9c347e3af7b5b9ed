use Rattle.laws_trees.proofs.outcomes.Outcomes.{taken_under_picks_lem}
use Rattle.laws_trees.proofs.taken_rules_give_their_outcome_under_picks.Goals as goal

pub returns : goal.returns
returns c = taken_under_picks_lem
