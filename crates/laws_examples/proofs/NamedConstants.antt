-- A named constant and a boolean literal are served.
use Rattle.std.proofs.Common.{arith}
use Rattle.std.proofs.lemmas.Grind.{common_steps}
use Rattle.laws_examples.proofs.Served.{serves_without_calls}
use Rattle.laws_examples.specs.NamedConstants.{ConstantsAreServed}

pub constants_are_served : ConstantsAreServed
constants_are_served = grind (arith, common_steps, serves_without_calls)
