use Rattle.laws_trees.proofs.NeverChosen.{shadowed_rules_can_be_taken_away_lem}
use Rattle.laws_trees.proofs.shadowed_rules_can_be_taken_away.Goals as goal

pub returns : goal.returns
returns c = shadowed_rules_can_be_taken_away_lem c.shadowed_rules_are_never_chosen.ensures
