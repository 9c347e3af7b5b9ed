use Rattle.laws_trees.proofs.taken.ServesSets.{served_multi_sets_serve_lem}
use Rattle.laws_trees.proofs.served_multi_sets_serve.Goals as goal

pub returns : goal.returns
returns c = served_multi_sets_serve_lem
