use Rattle.std.proofs.Common.{◌≡◌, ◌-◌, IsUtf8, chars}
use Rattle.text_documents.specs.Walks.{after_lines}
use Rattle.text_documents.proofs.lines.after_lines.Given as goal

abbrev pub invariant-loop : goal.invariant-loop
invariant-loop l = IsUtf8 l.rest × (after_lines (l.fn.count - l.counter) (chars l.rest) ≡ after_lines l.fn.count (chars l.fn.text))
