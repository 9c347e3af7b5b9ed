use Rattle.laws_specs.proofs.sets.SetLaws.{programs_of_sets_compute_as_said_lem}
use Rattle.laws_specs.proofs.programs_of_sets_compute_as_said.Goals as goal

pub returns : goal.returns
returns c = programs_of_sets_compute_as_said_lem c.accepted_sets_are_whole.ensures c.built_demands_hold_alike.ensures c.chooses_as_said.ensures
