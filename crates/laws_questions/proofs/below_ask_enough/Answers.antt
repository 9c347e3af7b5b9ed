use Rattle.laws_questions.proofs.Below.{below_ask_enough_lem}
use Rattle.laws_questions.proofs.below_ask_enough.Goals as goal

pub returns : goal.returns
returns c = below_ask_enough_lem
