use Rattle.std.proofs.Common.{◌≡◌, ◌++◌, IsUtf8, chars}
use Rattle.std.specs.Prelude.{string_bytes}
use Rattle.std.specs.List.{flat_map}
use Rattle.std.specs.Str.Iter.{chars_rest}
use Rattle.rust_items.specs.RustNames.{escaped}
use Rattle.rust_items.proofs.names.push_all_escaped.Given as goal

abbrev pub invariant-loop-c : goal.invariant-loop-c
invariant-loop-c l = record {
  utf8 : IsUtf8 (chars_rest l.c-iterator);
  text : string_bytes l.out ++ flat_map escaped (chars (chars_rest l.c-iterator)) ≡ string_bytes l.fn.out ++ flat_map escaped (chars l.text);
}
