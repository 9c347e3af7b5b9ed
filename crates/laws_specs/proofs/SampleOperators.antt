-- Operators and forms on examples, by computation.
use Rattle.std.proofs.Common.{refl, arith}
use Rattle.std.proofs.lemmas.Grind.{common_steps}
use Rattle.laws_specs.specs.SampleOperators.{FormsAreSaid, OperatorsAreApplied}

pub operators_are_applied_lem : OperatorsAreApplied
operators_are_applied_lem = record { as_solvers = refl; near_misses = refl }

pub forms_are_said_lem : FormsAreSaid
forms_are_said_lem = grind (arith, common_steps)
