use Rattle.laws_typing.proofs.NoReadLimits.{elaborated_lists_pass_no_limit_lem}
use Rattle.laws_typing.proofs.elaborated_lists_pass_no_limit.Goals as goal

pub returns : goal.returns
returns c = elaborated_lists_pass_no_limit_lem
