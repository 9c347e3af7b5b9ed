use Rattle.laws_trees.proofs.OneAnswer.{none_is_accepted_and_refused_lem}
use Rattle.laws_trees.proofs.none_is_accepted_and_refused.Goals as goal

pub returns : goal.returns
returns c = none_is_accepted_and_refused_lem
