use Rattle.std.specs.Prelude.{string_bytes}
use Rattle.rust_text.specs.Settings.{setting_by_program}
use Rattle.rust_text.proofs.WrittenFunctions.{FunctionsUpTo}
use Rattle.rust_text.proofs.functions.push_functions.Given as goal

abbrev pub invariant-loop-of : goal.invariant-loop-of
invariant-loop-of l = FunctionsUpTo l.fn.lowered (setting_by_program l.fn.program) (string_bytes l.fn.out) l.of-index (string_bytes l.out)
