use Rattle.laws_trees.proofs.NoLimitsLowered.{accepted_pass_no_limit_lem}
use Rattle.laws_trees.proofs.accepted_pass_no_limit.Goals as goal

pub returns : goal.returns
returns c = accepted_pass_no_limit_lem
