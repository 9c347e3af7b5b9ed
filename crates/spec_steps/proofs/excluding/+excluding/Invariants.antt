use Rattle.std.proofs.Common.{◌+◌, ◌*◌}
use Rattle.spec_steps.proofs.excluding.+excluding.Given as goal

abbrev pub decreases-there_fact : goal.decreases-there_fact
decreases-there_fact l = l.site * 2 + 1

abbrev pub decreases-there_by : goal.decreases-there_by
decreases-there_by l = l.site * 2
