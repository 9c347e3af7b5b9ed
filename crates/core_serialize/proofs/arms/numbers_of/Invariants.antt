use Rattle.std.proofs.Common.{◌≡◌, take}
use Rattle.core_serialize.specs.ArmOrder.{asked_numbers}
use Rattle.core_serialize.proofs.arms.numbers_of.Given as goal

abbrev pub invariant-loop-asked : goal.invariant-loop-asked
invariant-loop-asked l = l.rules.items ≡ asked_numbers (take l.asked-index l.turns)
