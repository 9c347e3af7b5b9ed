use Rattle.std.proofs.Common.{◌≡◌, ◌*◌, ◌++◌}
use Rattle.std.specs.Prelude.{replicate, string_bytes}
use Rattle.rust_text.proofs.spelling.push_indent.Given as goal

abbrev pub invariant-loop-step : goal.invariant-loop-step
invariant-loop-step l = string_bytes l.out ≡ string_bytes l.fn.out ++ replicate (4 * l.step) 32
