use Rattle.cranelift_isle.proofs.LowerLaws.{bound_lem}
use Rattle.cranelift_isle.proofs.laws.bound.Goals as goal

pub returns : goal.returns
returns c = bound_lem c.best_trees_bind_before_use.ensures
