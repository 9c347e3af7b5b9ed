-- By computing.
use Rattle.std.proofs.Common.{arith}
use Rattle.std.proofs.lemmas.Grind.{common_steps}
use Rattle.model_code.specs.TypeSamples.{TypesAreThose}

pub types_are_those_lem : TypesAreThose
types_are_those_lem = grind (arith, common_steps)
