use Rattle.laws_specs.proofs.SampleAnswers.{premises_hold_lem}
use Rattle.laws_specs.proofs.premises_hold.Goals as goal

pub returns : goal.returns
returns c = premises_hold_lem
