use Rattle.std.proofs.Common.{length}
use Rattle.spec_asked.proofs.signatures.+add_signatures.Given as goal

abbrev pub decreases-add_signatures : goal.decreases-add_signatures
decreases-add_signatures l = length l.terms.now
