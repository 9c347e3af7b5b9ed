use Rattle.std.proofs.Common.{◌≡◌, ◌++◌, IsUtf8, chars, map}
use Rattle.std.specs.Prelude.{string_bytes}
use Rattle.std.specs.Str.Iter.{chars_rest}
use Rattle.rust_items.specs.RustNames.{word_for}
use Rattle.rust_items.proofs.names.push_words.Given as goal

abbrev pub invariant-loop-c : goal.invariant-loop-c
invariant-loop-c l = record {
  utf8 : IsUtf8 (chars_rest l.c-iterator);
  text : string_bytes l.out ++ map word_for (chars (chars_rest l.c-iterator)) ≡ string_bytes l.fn.out ++ map word_for (chars l.name);
}
