use Rattle.laws_specs.proofs.SampleSets.{sets_are_asked_lem}
use Rattle.laws_specs.proofs.sets_are_asked.Goals as goal

pub returns : goal.returns
returns c = sets_are_asked_lem c.sums_are_right.ensures c.priorities_count.ensures
