use Rattle.std.proofs.Common.{ℕ, ◌≤◌, get_or, length, take}
use Rattle.std.specs.List.{filter}
use Rattle.model.specs.trees.Tests.{loop_test, needs_at}
use Rattle.core_serialize.specs.PlaceViews.{here_at, set_at}
use Rattle.core_serialize.proofs.calls.call_counts.Given as goal

abbrev pub invariant-loop-number : goal.invariant-loop-number
invariant-loop-number l = (s : ℕ) → length (filter (needs_at (set_at l.place).rules (loop_test s)) (take l.number-index (here_at l.place))) ≤ get_or l.counts.items s (length (here_at l.place))
