use Rattle.std.proofs.Common.{◌≡◌, ◌++◌, drop}
use Rattle.std.specs.Prelude.{string_bytes}
use Rattle.cranelift_isle.specs.Envs.{names_of}
use Rattle.cranelift_isle.specs.TypeViews.{type_views}
use Rattle.rust_items.proofs.GrownTexts.{parameters_of}
use Rattle.rust_items.proofs.program.Program.push_parameters.Given as goal

abbrev pub invariant-loop-i : goal.invariant-loop-i
invariant-loop-i l =
    string_bytes l.out ++ parameters_of (names_of l.fn.self.tyenv.now) (type_views l.fn.self.tyenv.now.types.items) l.i (drop l.i l.types)
    ≡ string_bytes l.fn.out ++ parameters_of (names_of l.fn.self.tyenv.now) (type_views l.fn.self.tyenv.now.types.items) 0 l.types
