use Rattle.cranelift_isle.proofs.LowerLaws.{demands_lem}
use Rattle.cranelift_isle.proofs.laws.demands.Goals as goal

pub returns : goal.returns
returns c = demands_lem c.accepted_demands_are_whole.ensures
