use Rattle.std.proofs.Common.{length}
use Rattle.spec_asked.proofs.demanded.+add_class_pairs.Given as goal

abbrev pub decreases-add_class_pairs : goal.decreases-add_class_pairs
decreases-add_class_pairs l = length l.classes.now
