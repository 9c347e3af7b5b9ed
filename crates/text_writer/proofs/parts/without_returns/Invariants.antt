use Rattle.std.proofs.Common.{◌≡◌, chars}
use Rattle.std.specs.Prelude.{string_bytes, string_len}
use Rattle.text_writer.specs.Placing.{without_returns}
use Rattle.text_writer.proofs.parts.without_returns.Given as goal

abbrev pub invariant-ends : goal.invariant-ends
invariant-ends l = without_returns (chars (string_bytes l.comment)) ≡ without_returns (chars (string_bytes l.fn.comment))

abbrev pub decreases-ends : goal.decreases-ends
decreases-ends l = string_len l.comment
