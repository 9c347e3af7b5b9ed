use Rattle.std.proofs.Common.{length}
use Rattle.spec_cases.proofs.answering.+is_listed.Given as goal

abbrev pub decreases-is_listed : goal.decreases-is_listed
decreases-is_listed l = length l.widths.now
