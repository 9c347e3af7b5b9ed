use Rattle.laws_specs.proofs.SaidLists.{lowered_list_programs_compute_as_said_lem}
use Rattle.laws_specs.proofs.lowered_list_programs_compute_as_said.Goals as goal

pub returns : goal.returns
returns c = lowered_list_programs_compute_as_said_lem c.list_programs_compute_as_said.ensures
