use Rattle.cranelift_isle.proofs.LowerLaws.{limits_lem}
use Rattle.cranelift_isle.proofs.laws.limits.Goals as goal

pub returns : goal.returns
returns c = limits_lem
