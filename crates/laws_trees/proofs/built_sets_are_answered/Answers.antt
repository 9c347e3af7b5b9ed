use Rattle.laws_trees.proofs.SetsAnswered.{built_sets_are_answered_lem}
use Rattle.laws_trees.proofs.built_sets_are_answered.Goals as goal

pub returns : goal.returns
returns c = built_sets_are_answered_lem c.built_demands_are_whole.ensures c.built_sets_can_be_served.ensures c.built_sets_have_numbers_in_range.ensures c.built_sets_mean_their_rules.ensures c.built_rules_are_told_apart.ensures
