use Rattle.std.proofs.Common.{◌≡◌, ◌++◌, IsUtf8, chars}
use Rattle.std.specs.Prelude.{string_bytes}
use Rattle.std.specs.Str.Iter.{chars_rest}
use Rattle.text_writer.specs.Pages.{behind}
use Rattle.text_writer.proofs.layout.push.Given as goal

abbrev pub invariant-loop-c : goal.invariant-loop-c
invariant-loop-c l = record {
  utf8 : IsUtf8 (chars_rest l.c-iterator);
  place : behind l.behind (chars (chars_rest l.c-iterator)) ≡ behind l.fn.at (chars l.more);
  text : chars (string_bytes l.text) ++ chars (chars_rest l.c-iterator) ≡ chars (string_bytes l.fn.text) ++ chars l.more;
}
