use Rattle.std.proofs.Common.{◌≡◌, None, replicate}
use Rattle.core_overlap.proofs.keys.no_keys.Given as goal

abbrev pub invariant-loop : goal.invariant-loop
invariant-loop l = l.keys.items ≡ replicate l.counter None
