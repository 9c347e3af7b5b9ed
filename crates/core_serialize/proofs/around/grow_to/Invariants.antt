use Rattle.std.proofs.Common.{◌≡◌, ◌≤◌, ℕ, ◌+◌, ◌-◌, get_or, length, take}
use Rattle.core_serialize.proofs.around.grow_to.Given as goal

abbrev pub invariant-loop-site : goal.invariant-loop-site
invariant-loop-site l = record {
  names : (s : ℕ) → get_or l.names.items s s ≡ get_or l.initial.names.items s s;
  before : take (length l.initial.names.items) l.names.items ≡ l.initial.names.items;
  longer : length l.initial.names.items ≤ length l.names.items;
}

abbrev pub decreases-loop-site : goal.decreases-loop-site
decreases-loop-site l = (l.site + 1) - length l.names.items
