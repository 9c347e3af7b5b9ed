use Rattle.model_code.proofs.Modes.{flat_keeps_modes_lem}
use Rattle.model_code.proofs.flat_keeps_modes.Goals as goal

pub returns : goal.returns
returns c = flat_keeps_modes_lem
