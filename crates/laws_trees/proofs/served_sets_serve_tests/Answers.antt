use Rattle.laws_trees.proofs.taken.ServesRuns.{served_sets_serve_tests_lem}
use Rattle.laws_trees.proofs.served_sets_serve_tests.Goals as goal

pub returns : goal.returns
returns c = served_sets_serve_tests_lem
