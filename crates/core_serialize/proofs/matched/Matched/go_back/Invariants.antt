use Rattle.std.proofs.Common.{◌≡◌, drop, length, take}
use Rattle.core_serialize.specs.Matches.{undone}
use Rattle.core_serialize.proofs.matched.Matched.go_back.Given as goal

abbrev pub invariant-loop-self : goal.invariant-loop-self
invariant-loop-self l = record {
  raised : take l.mark l.self.raised.items ≡ take l.mark l.fn.self.raised.items;
  counts : undone (drop l.mark l.self.raised.items) l.self.counts.items ≡ undone (drop l.mark l.fn.self.raised.items) l.fn.self.counts.items;
}

abbrev pub decreases-loop-self : goal.decreases-loop-self
decreases-loop-self l = length l.self.raised.items
