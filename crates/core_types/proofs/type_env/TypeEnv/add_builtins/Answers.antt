use Rattle.std.proofs.Common.{rules}
use Rattle.core_types.proofs.Booting.{next_boot}
use Rattle.core_types.proofs.type_env.TypeEnv.add_builtins.Goals as goal

pub loop-builtin-preserved : goal.loop-builtin-preserved
loop-builtin-preserved c =
    next_boot c.args.builtins.now c.loop-builtin.builtin-index _ (search rules) _ _ c.in_ok-add_builtin.ensures.inverse c.loop-builtin.invariant c.in_ok-add_builtin.ensures.adds
