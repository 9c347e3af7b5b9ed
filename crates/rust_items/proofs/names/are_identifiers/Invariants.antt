use Rattle.std.proofs.Common.{◌≡◌, length}
use Rattle.std.specs.List.{list_all}
use denote.Text.{Utf8}
use denote.Shadow.{shadow}
use Rattle.rust_items.specs.RustNames.{is_identifier, segments}
use Rattle.rust_items.proofs.names.are_identifiers.Given as goal

abbrev pub invariant-loop-segment : goal.invariant-loop-segment
invariant-loop-segment l = record {
  utf8 : shadow (Utf8 l.left);
  same : list_all is_identifier (segments l.left) ≡ list_all is_identifier (segments l.fn.name);
}

abbrev pub decreases-loop-segment : goal.decreases-loop-segment
decreases-loop-segment l = length l.left
