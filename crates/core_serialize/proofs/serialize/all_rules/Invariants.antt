use Rattle.std.proofs.Common.{◌≡◌}
use Rattle.model.specs.trees.Tests.{up_to}
use Rattle.core_serialize.proofs.serialize.all_rules.Given as goal

abbrev pub invariant-loop-number : goal.invariant-loop-number
invariant-loop-number l = l.rules.items ≡ up_to l.number
