use Rattle.std.proofs.Common.{length}
use Rattle.spec_cases.proofs.combining.+add_wholes.Given as goal

abbrev pub decreases-add_wholes : goal.decreases-add_wholes
decreases-add_wholes l = length l.lists.now
