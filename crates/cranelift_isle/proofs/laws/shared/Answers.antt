use Rattle.cranelift_isle.proofs.LowerLaws.{shared_lem}
use Rattle.cranelift_isle.proofs.laws.shared.Goals as goal

pub returns : goal.returns
returns c = shared_lem c.best_trees_mean_their_sets.ensures
