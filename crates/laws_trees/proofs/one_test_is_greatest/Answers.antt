use Rattle.laws_trees.proofs.Scores.{one_test_is_greatest_lem}
use Rattle.laws_trees.proofs.one_test_is_greatest.Goals as goal

pub returns : goal.returns
returns c = one_test_is_greatest_lem
