-- By computing.
use Rattle.std.proofs.Common.{arith}
use Rattle.std.proofs.lemmas.Grind.{common_steps}
use Rattle.model_code.specs.Samples.{SamplesAreJudged}

pub samples_are_judged_lem : SamplesAreJudged
samples_are_judged_lem = grind (arith, common_steps)
