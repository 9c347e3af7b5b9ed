use Rattle.laws_trees.proofs.NoLoops.{trees_without_calls_have_no_loop_lem}
use Rattle.laws_trees.proofs.trees_without_calls_have_no_loop.Goals as goal

pub returns : goal.returns
returns c = trees_without_calls_have_no_loop_lem
