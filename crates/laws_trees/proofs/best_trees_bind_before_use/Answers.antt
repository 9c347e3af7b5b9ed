use Rattle.laws_trees.proofs.binding.Trees.{best_tree_binds}
use Rattle.laws_trees.proofs.binding.PlacedSites.{places_apart}
use Rattle.laws_trees.proofs.best_trees_bind_before_use.Goals as goal

pub returns : goal.returns
returns c = λ p t set h b multi tree best. best_tree_binds (record { set = set; before = b.sources; apart = places_apart (record { program = p; term = t; set = set; built = b }) h }) multi tree best
