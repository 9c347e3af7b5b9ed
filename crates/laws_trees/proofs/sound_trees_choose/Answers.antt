use Rattle.laws_trees.proofs.runs.Choice.{sound_trees_choose_lem}
use Rattle.laws_trees.proofs.sound_trees_choose.Goals as goal

pub returns : goal.returns
returns c = sound_trees_choose_lem
