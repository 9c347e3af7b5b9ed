use Rattle.std.proofs.Common.{◌+◌, ◌++◌, ◌≤◌, ℕ, List, take}
use Rattle.text_lines.specs.Marks.{IsBehind}
use Rattle.text_lines.proofs.LinePlace.past.Given as goal

abbrev pub invariant-loop-byte : goal.invariant-loop-byte
invariant-loop-byte l = record {
  place : (front : List ℕ) → IsBehind front l.fn.self → IsBehind (front ++ take l.byte-index l.bytes) l.place;
  line : l.place.line ≤ l.fn.self.line + l.byte-index;
  column : l.place.column ≤ l.fn.self.column + l.byte-index;
}
