use Rattle.std.proofs.Common.{◌≡◌, length}
use Rattle.core_overlap.proofs.keys.ends.Given as goal

abbrev pub invariant-loop : goal.invariant-loop
invariant-loop l = length l.ends.items ≡ l.counter
