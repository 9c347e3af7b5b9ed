use Rattle.laws_trees.proofs.WholeDemandsLowered.{accepted_demands_are_whole_lem}
use Rattle.laws_trees.proofs.accepted_demands_are_whole.Goals as goal

pub returns : goal.returns
returns c = accepted_demands_are_whole_lem c.built_demands_are_whole.ensures
