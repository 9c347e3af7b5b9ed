use Rattle.laws_specs.proofs.SampleConditions.{calls_are_required_lem}
use Rattle.laws_specs.proofs.calls_are_required.Goals as goal

pub returns : goal.returns
returns c = calls_are_required_lem
