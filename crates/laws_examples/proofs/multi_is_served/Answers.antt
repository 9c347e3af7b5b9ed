use Rattle.laws_examples.proofs.Multi.{multi_tree_collects}
use Rattle.laws_examples.proofs.multi_is_served.Goals as goal

pub returns-clause-best_tree : goal.returns-clause-best_tree
returns-clause-best_tree c = multi_tree_collects
