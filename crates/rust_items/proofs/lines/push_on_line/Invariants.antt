use Rattle.std.proofs.Common.{◌≡◌, ◌++◌, IsUtf8, chars}
use Rattle.std.specs.Prelude.{string_bytes}
use Rattle.std.specs.List.{flat_map}
use Rattle.std.specs.Str.Iter.{chars_rest}
use Rattle.rust_items.specs.FilePlaces.{on_line_bytes}
use Rattle.rust_items.proofs.lines.push_on_line.Given as goal

abbrev pub invariant-loop-c : goal.invariant-loop-c
invariant-loop-c l = record {
  utf8 : IsUtf8 (chars_rest l.c-iterator);
  text : string_bytes l.out ++ flat_map on_line_bytes (chars (chars_rest l.c-iterator)) ≡ string_bytes l.fn.out ++ flat_map on_line_bytes (chars l.text);
}
