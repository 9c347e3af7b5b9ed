use Rattle.std.proofs.Common.{◌≡◌, ℕ, ◌*◌, ◌++◌}
use Rattle.std.specs.Prelude.{replicate, string_bytes}
use Rattle.report_print.proofs.print.print_pieces.Given as goal

abbrev pub invariant-loop-step : goal.invariant-loop-step
invariant-loop-step l = (width : ℕ) → l.fn.piece ≡ replicate width 32 → string_bytes l.out ≡ string_bytes l.fn.out ++ replicate (l.step * width) 32
