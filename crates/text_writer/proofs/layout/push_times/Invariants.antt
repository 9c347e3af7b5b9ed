use Rattle.std.proofs.Common.{◌≡◌, ◌++◌, chars}
use Rattle.std.specs.Prelude.{string_bytes, replicate}
use Rattle.text_writer.proofs.layout.push_times.Given as goal

abbrev pub invariant-loop : goal.invariant-loop
invariant-loop l = chars (string_bytes l.text) ≡ chars (string_bytes l.fn.text) ++ replicate l.counter l.c
