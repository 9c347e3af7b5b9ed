use Rattle.core_types.proofs.Naming.{NamesUpTo}
use Rattle.core_types.proofs.type_env.TypeEnv.name_types.Given as goal

abbrev pub invariant-loop-def : goal.invariant-loop-def
invariant-loop-def l = NamesUpTo l.defs l.def-index l.initial.errors.items l.self l.errors.items
