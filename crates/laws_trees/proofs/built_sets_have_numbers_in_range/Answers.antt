use Rattle.laws_trees.proofs.taken.NumbersInRange.{built_sets_have_numbers_in_range_lem}
use Rattle.laws_trees.proofs.built_sets_have_numbers_in_range.Goals as goal

pub returns : goal.returns
returns c = built_sets_have_numbers_in_range_lem
