use Rattle.laws_trees.proofs.NoMulti.{rules_without_multi_go_over_no_calls_lem}
use Rattle.laws_trees.proofs.rules_without_multi_go_over_no_calls.Goals as goal

pub returns : goal.returns
returns c = rules_without_multi_go_over_no_calls_lem
