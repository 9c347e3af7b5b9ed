use Rattle.std.proofs.Common.{◌≡◌, IsUtf8, chars}
use Rattle.std.specs.Str.Iter.{chars_rest}
use Rattle.text_documents.specs.Walks.{after_line}
use Rattle.text_documents.proofs.lines.after_line.Given as goal

abbrev pub invariant-loop-c : goal.invariant-loop-c
invariant-loop-c l = IsUtf8 (chars_rest l.rest) × (after_line (chars (chars_rest l.rest)) ≡ after_line (chars l.fn.text))
