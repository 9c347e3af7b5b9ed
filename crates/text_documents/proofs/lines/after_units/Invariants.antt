use Rattle.std.proofs.Common.{◌≡◌, IsUtf8, chars, length}
use Rattle.std.specs.Str.Iter.{chars_rest}
use Rattle.text_documents.specs.Walks.{after_units}
use Rattle.text_documents.proofs.lines.after_units.Given as goal

abbrev pub invariant-loop-c : goal.invariant-loop-c
invariant-loop-c l = IsUtf8 (chars_rest l.rest) × (after_units l.left (chars (chars_rest l.rest)) ≡ after_units l.fn.count (chars l.fn.text))

abbrev pub decreases-loop-c : goal.decreases-loop-c
decreases-loop-c l = length (chars_rest l.rest)
