-- By computing.
use Rattle.std.proofs.Common.{arith}
use Rattle.std.proofs.lemmas.Grind.{common_steps}
use Rattle.model_code.specs.MoveSamples.{MovesAreJudged}

pub moves_are_judged_lem : MovesAreJudged
moves_are_judged_lem = grind (arith, common_steps)
