use Rattle.laws_examples.proofs.Asked.{all_premises_hold_lem}
use Rattle.laws_examples.proofs.asked_premises_hold.Goals as goal

pub returns : goal.returns
returns c = all_premises_hold_lem c.best_trees_keep_the_headline.ensures c.questions_ask_enough.ensures c.refuted_programs_compute_as_said.ensures
