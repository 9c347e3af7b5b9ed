use Rattle.laws_trees.proofs.outcomes.Outcomes.{taken_lem}
use Rattle.laws_trees.proofs.taken_rules_give_their_outcome.Goals as goal

pub returns : goal.returns
returns c = taken_lem
