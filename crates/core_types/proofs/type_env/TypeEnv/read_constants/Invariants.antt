use Rattle.core_types.proofs.TypingConstants.{ConstantsUpTo}
use Rattle.core_types.proofs.type_env.TypeEnv.read_constants.Given as goal

abbrev pub invariant-loop-def : goal.invariant-loop-def
invariant-loop-def l = ConstantsUpTo l.defs l.def-index l.initial.errors.items l.self l.errors.items
