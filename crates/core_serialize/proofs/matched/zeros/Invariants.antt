use Rattle.std.proofs.Common.{◌≡◌, ℕ, get_or}
use Rattle.core_serialize.proofs.matched.zeros.Given as goal

abbrev pub invariant-loop : goal.invariant-loop
invariant-loop l = (i : ℕ) → get_or l.zeros.items i 0 ≡ 0
