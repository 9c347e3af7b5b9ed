use Rattle.laws_trees.proofs.choosing.Terms.{choice_asks_terms_lem}
use Rattle.laws_trees.proofs.choice_asks_terms.Goals as goal

pub returns : goal.returns
returns c = choice_asks_terms_lem
