use Rattle.laws_specs.proofs.SampleBelow.{priority_premises_hold_lem}
use Rattle.laws_specs.proofs.priority_premises_hold.Goals as goal

pub returns : goal.returns
returns c = priority_premises_hold_lem
