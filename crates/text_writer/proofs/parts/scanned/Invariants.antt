use Rattle.std.proofs.Common.{◌≡◌, IsUtf8, chars}
use Rattle.std.specs.Str.Iter.{chars_rest}
use Rattle.text_writer.specs.Placing.{with_piece, nothing_placed}
use Rattle.text_writer.specs.PartViews.{mode_view, placing_view}
use Rattle.text_writer.specs.Scanning.{run, start}
use Rattle.text_writer.proofs.parts.scanned.Given as goal

abbrev pub invariant-loop-c : goal.invariant-loop-c
invariant-loop-c l = record {
  utf8 : IsUtf8 (chars_rest l.c-iterator);
  same : run with_piece (mode_view l.state, placing_view l.scan) (chars (chars_rest l.c-iterator)) ≡ run with_piece (start, nothing_placed) (chars l.text);
}
