use Rattle.std.proofs.Common.{◌≡◌, ◌++◌, map, length}
use Rattle.std.specs.Prelude.{string_bytes}
use denote.Text.{Utf8}
use denote.Shadow.{shadow}
use Rattle.rust_items.specs.RustNames.{joined, raw_segment, segments}
use Rattle.rust_items.proofs.names.push_segments.Given as goal

abbrev pub invariant-loop-segment : goal.invariant-loop-segment
invariant-loop-segment l = record {
  utf8 : shadow (Utf8 l.left);
  text : string_bytes l.out ++ joined (map raw_segment (segments l.left)) ≡ string_bytes l.fn.out ++ joined (map raw_segment (segments l.fn.name));
}

abbrev pub decreases-loop-segment : goal.decreases-loop-segment
decreases-loop-segment l = length l.left
