use Rattle.std.proofs.Common.{length}
use Rattle.spec_steps.proofs.listing.+fresh.Given as goal

abbrev pub decreases-fresh : goal.decreases-fresh
decreases-fresh l = length l.list.now
