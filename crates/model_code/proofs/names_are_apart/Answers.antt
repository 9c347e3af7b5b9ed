use Rattle.model_code.proofs.PrintedNames.{names_are_apart_lem}
use Rattle.model_code.proofs.names_are_apart.Goals as goal

pub returns : goal.returns
returns c = names_are_apart_lem
