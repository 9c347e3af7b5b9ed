use Rattle.std.proofs.Common.{◌≢◌, ◌<◌, ℕ, None, Some, slice_get}
use Rattle.core_overlap.proofs.keys.first_without.Given as goal

abbrev pub invariant-loop-i : goal.invariant-loop-i
invariant-loop-i l = (m : ℕ) → m < l.i → slice_get l.keys m ≢ Some None
