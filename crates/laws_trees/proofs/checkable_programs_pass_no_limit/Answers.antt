use Rattle.laws_trees.proofs.NoLimits.{checkable_programs_pass_no_limit_lem}
use Rattle.laws_trees.proofs.checkable_programs_pass_no_limit.Goals as goal

pub returns : goal.returns
returns c = checkable_programs_pass_no_limit_lem
