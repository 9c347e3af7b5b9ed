use Rattle.laws_trees.proofs.headline.Collecting.{best_trees_collect_the_bag_lem}
use Rattle.laws_trees.proofs.best_trees_collect_the_bag.Goals as goal

pub returns : goal.returns
returns c = best_trees_collect_the_bag_lem
    (record {
      collected = c.built_sets_are_collected.ensures;
      serve = c.served_multi_sets_serve.ensures;
      one_priority = c.multi_terms_have_one_priority.ensures;
      apart = c.no_rule_asks_and_goes_over.ensures;
      match = c.built_sets_match_by_demands.ensures;
      results = c.results_are_held.ensures;
    })
