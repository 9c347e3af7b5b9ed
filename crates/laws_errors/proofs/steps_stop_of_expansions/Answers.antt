use Rattle.laws_errors.proofs.MetNames.{steps_stop_of_expansions_lem}
use Rattle.laws_errors.proofs.steps_stop_of_expansions.Goals as goal

pub returns : goal.returns
returns c = steps_stop_of_expansions_lem
