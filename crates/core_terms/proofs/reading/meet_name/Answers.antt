use Rattle.core_terms.proofs.TypesStaying.{interned}
use Rattle.core_terms.proofs.reading.meet_name.Goals as goal

pub returns-clause-interns : goal.returns-clause-interns
returns-clause-interns c =
    let m = c.intern_mut.ensures in
    interned c.intern_mut.result _ _ _ m.names m.err_names m.inverse m.types m.type_map m.const_types m.errors
