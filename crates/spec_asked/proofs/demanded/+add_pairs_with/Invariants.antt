use Rattle.std.proofs.Common.{length}
use Rattle.spec_asked.proofs.demanded.+add_pairs_with.Given as goal

abbrev pub decreases-add_pairs_with : goal.decreases-add_pairs_with
decreases-add_pairs_with l = length l.class.now
