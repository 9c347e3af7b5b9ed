use Rattle.laws_trees.proofs.Soundness.{best_trees_are_sound_lem}
use Rattle.laws_trees.proofs.best_trees_of_built_sets_are_sound.Goals as goal

pub returns : goal.returns
returns c = λ p t set h b multi tree none one best. best_trees_are_sound_lem set multi tree (c.built_sets_are_well_built.ensures p t set h b none) one best
