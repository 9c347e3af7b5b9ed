use Rattle.laws_specs.proofs.SamplePriorities.{priorities_count_lem}
use Rattle.laws_specs.proofs.priorities_count.Goals as goal

pub returns : goal.returns
returns c = priorities_count_lem
