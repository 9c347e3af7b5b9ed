use Rattle.laws_trees.proofs.SetsServed.{lowered_sets_mean_their_rules_lem}
use Rattle.laws_trees.proofs.lowered_sets_mean_their_rules.Goals as goal

pub returns : goal.returns
returns c =
    lowered_sets_mean_their_rules_lem
    (record {
      mean = c.best_trees_mean_their_sets.ensures;
      tested = c.built_sets_are_tested.ensures;
      serve = c.served_sets_serve_tests.ensures;
      collected = c.built_sets_are_collected.ensures;
      serve_multi = c.served_multi_sets_serve.ensures;
      one_priority = c.multi_terms_have_one_priority.ensures;
      no_calls = c.rules_without_multi_go_over_no_calls.ensures;
      rules = c.built_sets_mean_their_rules.ensures;
    })
