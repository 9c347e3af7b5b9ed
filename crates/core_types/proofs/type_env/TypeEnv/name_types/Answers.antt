use Rattle.std.proofs.Common.{rules}
use Rattle.core_types.specs.TypeErrors.{TellsOfName}
use Rattle.core_types.proofs.Naming.{next_name}
use Rattle.core_types.proofs.ToldErrors.{noted_none}
use Rattle.core_types.proofs.type_env.TypeEnv.name_types.Goals as goal

pub loop-def-init : goal.loop-def-init
loop-def-init c = record { named = c.requires; told = noted_none TellsOfName _ }

pub loop-def-preserved : goal.loop-def-preserved
loop-def-preserved c =
    next_name c.args.defs.now c.loop-def.def-index c.def-item.result (search rules) c.def-item.is _ _ _ _ _ c.in_ok-name_definition.ensures.inverse c.loop-def.invariant c.in_ok-name_definition.ensures.names
