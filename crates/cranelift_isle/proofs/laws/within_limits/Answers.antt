use Rattle.cranelift_isle.proofs.LowerLaws.{within_limits_lem}
use Rattle.cranelift_isle.proofs.laws.within_limits.Goals as goal

pub returns : goal.returns
returns c = within_limits_lem c.accepted_pass_no_limit.ensures
