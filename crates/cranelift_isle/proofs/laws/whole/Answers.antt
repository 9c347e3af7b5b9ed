use Rattle.cranelift_isle.proofs.LowerLaws.{whole_lem}
use Rattle.cranelift_isle.proofs.laws.whole.Goals as goal

pub returns : goal.returns
returns c = whole_lem c.accepted_sets_are_whole.ensures
