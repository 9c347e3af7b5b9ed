use Rattle.cranelift_isle.proofs.LowerLaws.{unique_lem}
use Rattle.cranelift_isle.proofs.laws.unique.Goals as goal

pub returns : goal.returns
returns c = unique_lem c.lowered_trees_are_only_best.ensures
