use Rattle.std.proofs.Common.{rules}
use Rattle.core_types.proofs.TypingConstants.{next_constant, first_constant}
use Rattle.core_types.proofs.type_env.TypeEnv.read_constants.Goals as goal

pub loop-def-init : goal.loop-def-init
loop-def-init c = first_constant c.args.defs.now _ _ c.requires

pub loop-def-preserved : goal.loop-def-preserved
loop-def-preserved c =
    next_constant c.args.defs.now c.loop-def.def-index c.def-item.result (search rules) c.def-item.is _ _ _ _ _ c.in_ok-read_definition.ensures.inverse c.loop-def.invariant c.in_ok-read_definition.ensures.reads
