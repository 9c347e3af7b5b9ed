use Rattle.laws_specs.proofs.SaidRuns.{programs_compute_as_said_lem}
use Rattle.laws_specs.proofs.programs_compute_as_said.Goals as goal

pub returns : goal.returns
returns c = programs_compute_as_said_lem c.chooses_as_said.ensures c.chooses_as_said_by_priority.ensures
