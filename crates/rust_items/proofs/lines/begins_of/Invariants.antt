use Rattle.std.proofs.Common.{◌≡◌, ◌++◌, drop}
use Rattle.rust_items.specs.FilePlaces.{begins_behind, line_begins}
use Rattle.rust_items.proofs.lines.begins_of.Given as goal

abbrev pub invariant-loop-at : goal.invariant-loop-at
invariant-loop-at l = l.begins.items ++ begins_behind l.at (drop l.at l.bytes) ≡ line_begins l.fn.text
