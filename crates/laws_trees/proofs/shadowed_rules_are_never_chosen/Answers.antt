use Rattle.laws_trees.proofs.NeverChosen.{shadowed_rules_are_never_chosen_lem}
use Rattle.laws_trees.proofs.shadowed_rules_are_never_chosen.Goals as goal

pub returns : goal.returns
returns c = shadowed_rules_are_never_chosen_lem c.built_rules_are_told_apart.ensures
