use Rattle.laws_specs.proofs.sets.SetLaws.{sets_ask_enough_lem}
use Rattle.laws_specs.proofs.sets_ask_enough.Goals as goal

pub returns : goal.returns
returns c = sets_ask_enough_lem c.accepted_sets_are_whole.ensures
