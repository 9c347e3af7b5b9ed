use Rattle.laws_specs.proofs.SaidRuns.{lowered_programs_compute_as_said_lem}
use Rattle.laws_specs.proofs.lowered_programs_compute_as_said.Goals as goal

pub returns : goal.returns
returns c = lowered_programs_compute_as_said_lem c.programs_compute_as_said.ensures
