use Rattle.std.proofs.Common.{inl}
use Rattle.cranelift_isle.specs.Lowerings.{lowered_view}
use Rattle.spec_asked.specs.Tables.{specs_of}
use Rattle.spec_asked.proofs.LoweredTables.{lowered_there}
use Rattle.spec_asked.proofs.RefutedSets.{sets_valid}
use Rattle.spec_asked.proofs.laws.refuted_terms_compute_as_said.Goals as goal

pub returns : goal.returns
returns c = λ lowered signatures specs term s single refuted d m args called apart.
    c.lowered_sets_compute_as_said.ensures s.defs s.expand s.rules (lowered_view term) (specs_of specs s.saying s.unknowns) d m args s.answer.accepted
    (lowered_there s.defs s.expand s.rules lowered s.answer s.place term s.there) single
    (inl (sets_valid lowered signatures specs term s c.refuted_rules_are_valid.ensures refuted)) called apart
