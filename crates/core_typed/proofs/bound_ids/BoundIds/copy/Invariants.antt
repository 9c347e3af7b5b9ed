use Rattle.std.proofs.Common.{◌≡◌, take}
use Rattle.core_typed.proofs.bound_ids.BoundIds.copy.Given as goal

-- what was copied
abbrev pub invariant-loop-entry : goal.invariant-loop-entry
invariant-loop-entry g l = l.entries.items ≡ take l.entry-index l.entry-items
