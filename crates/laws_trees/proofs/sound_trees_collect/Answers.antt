use Rattle.laws_trees.proofs.runs.Collection.{sound_trees_collect_lem}
use Rattle.laws_trees.proofs.sound_trees_collect.Goals as goal

pub returns : goal.returns
returns c = sound_trees_collect_lem
