use Rattle.std.proofs.Common.{length}
use Rattle.check_trees.proofs.reader.+level_at.Given as goal

-- each line is read with those behind it
abbrev pub decreases-level_at : goal.decreases-level_at
decreases-level_at l = length l.lines.now
