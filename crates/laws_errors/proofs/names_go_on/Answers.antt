use Rattle.laws_errors.proofs.MetNames.{names_go_on_lem}
use Rattle.laws_errors.proofs.names_go_on.Goals as goal

pub returns : goal.returns
returns c = names_go_on_lem
