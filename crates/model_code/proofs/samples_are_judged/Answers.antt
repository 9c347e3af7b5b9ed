use Rattle.model_code.proofs.Samples.{samples_are_judged_lem}
use Rattle.model_code.proofs.samples_are_judged.Goals as goal

pub returns : goal.returns
returns c = samples_are_judged_lem
