use Rattle.core_types.proofs.FillingTypes.{FillsUpTo}
use Rattle.core_types.proofs.type_env.TypeEnv.fill_types.Given as goal

abbrev pub invariant-loop-def : goal.invariant-loop-def
invariant-loop-def l = FillsUpTo l.defs l.def-index l.initial.errors.items l.self l.errors.items
