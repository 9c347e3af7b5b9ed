use Rattle.std.proofs.Common.{drop}
use Rattle.core_types.specs.Stages.{Booting}
use Rattle.core_types.proofs.type_env.TypeEnv.add_builtins.Given as goal

abbrev pub invariant-loop-builtin : goal.invariant-loop-builtin
invariant-loop-builtin l = Booting l.self (drop l.builtin-index l.builtins)
