use Rattle.laws_trees.proofs.headline.AcceptedTrees.{best_trees_keep_the_headline_lem}
use Rattle.laws_trees.proofs.best_trees_keep_the_headline.Goals as goal

pub returns : goal.returns
returns c =
    best_trees_keep_the_headline_lem
    (record {
      tested = c.built_sets_are_tested.ensures;
      serve = c.served_sets_serve_tests.ensures;
      sound = c.best_trees_of_built_sets_are_sound.ensures;
      match = c.built_sets_match_by_demands.ensures;
      apart = c.built_rules_are_told_apart.ensures;
      no_calls = c.rules_without_multi_go_over_no_calls.ensures;
      taken = c.taken_rules_give_their_outcome.ensures;
    })
    c.best_trees_collect_the_bag.ensures
    c.best_trees_bind_before_use.ensures
