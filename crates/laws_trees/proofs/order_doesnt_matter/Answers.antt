use Rattle.laws_trees.proofs.choosing.OtherRules.{order_doesnt_matter_lem}
use Rattle.laws_trees.proofs.order_doesnt_matter.Goals as goal

pub returns : goal.returns
returns c = order_doesnt_matter_lem
