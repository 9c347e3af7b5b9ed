use Rattle.std.proofs.Common.{◌≡◌, ◌≤◌, length}
use Rattle.core_overlap.proofs.Chains.{FirstsFrom, NextFrom}
use Rattle.core_overlap.proofs.keys.next_alike.Given as goal

abbrev pub invariant-loop-left : goal.invariant-loop-left
invariant-loop-left l = record {
  within : l.left ≤ length l.keys;
  each : length l.next.items ≡ length l.keys;
  next : NextFrom l.keys l.left l.next.items;
  firsts : FirstsFrom l.keys l.left l.firsts;
}

abbrev pub decreases-loop-left : goal.decreases-loop-left
decreases-loop-left l = l.left
