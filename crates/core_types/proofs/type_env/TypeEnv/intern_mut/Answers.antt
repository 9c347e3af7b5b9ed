use Rattle.core_types.proofs.WellFormedEnvs.{interned_well_formed}
use Rattle.core_types.proofs.type_env.TypeEnv.intern_mut.Goals as goal

pub returns-clause-well_formed : goal.returns-clause-well_formed
returns-clause-well_formed c =
    let e = c.intern_text.ensures in
    interned_well_formed c.intern_text.result _ c.args.self.now c.intern_text.new.self e.names e.err_names e.inverse e.types e.type_map e.const_types e.errors
