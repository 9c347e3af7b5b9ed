use Rattle.std.proofs.Common.{length}
use Rattle.spec_asked.proofs.demanded.+add_pairs.Given as goal

abbrev pub decreases-add_pairs : goal.decreases-add_pairs
decreases-add_pairs l = length l.sites.now
