use Rattle.std.proofs.Common.{length}
use Rattle.spec_steps.proofs.splitting.+split_list.Given as goal

abbrev pub decreases-split_list : goal.decreases-split_list
decreases-split_list l = length l.forms.now
