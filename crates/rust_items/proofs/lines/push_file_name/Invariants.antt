use Rattle.std.proofs.Common.{◌≡◌, drop, map}
use Rattle.std.specs.Prelude.{string_bytes}
use Rattle.rust_items.specs.FilePlaces.{file_written}
use Rattle.rust_items.specs.SourceViews.{beginning_view}
use Rattle.rust_items.proofs.lines.push_file_name.Given as goal

abbrev pub invariant-loop-prefix : goal.invariant-loop-prefix
invariant-loop-prefix l = record {
  out : string_bytes l.out ≡ string_bytes l.fn.out;
  left : file_written (map beginning_view (drop l.prefix-index l.prefixes)) l.name ≡ file_written (map beginning_view l.prefixes) l.name;
}
