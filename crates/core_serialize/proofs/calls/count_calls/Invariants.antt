use Rattle.std.proofs.Common.{ℕ, ◌+◌, ◌≤◌, get_or, take}
use Rattle.model.specs.trees.Places.{is_in}
use Rattle.model.specs.trees.Sound.{as_number}
use Rattle.core_serialize.proofs.calls.count_calls.Given as goal

abbrev pub invariant-loop-call : goal.invariant-loop-call
invariant-loop-call l = (s m : ℕ) → m ≤ l.most → m ≤ get_or l.fn.counts.items s l.most + as_number (is_in s (take l.call-index l.calls)) → m ≤ get_or l.counts.items s l.most
