use Rattle.laws_specs.proofs.SampleConditions.{sums_are_right_lem}
use Rattle.laws_specs.proofs.sums_are_right.Goals as goal

pub returns : goal.returns
returns c = sums_are_right_lem
