use Rattle.laws_specs.proofs.SaidLists.{list_programs_compute_as_said_lem}
use Rattle.laws_specs.proofs.list_programs_compute_as_said.Goals as goal

pub returns : goal.returns
returns c = list_programs_compute_as_said_lem c.chooses_as_said.ensures c.chooses_as_said_by_priority.ensures c.bags_are_as_said.ensures
