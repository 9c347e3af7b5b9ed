use Rattle.model_code.proofs.FlatMoves.{flat_keeps_moves_lem}
use Rattle.model_code.proofs.flat_keeps_moves.Goals as goal

pub returns : goal.returns
returns c = flat_keeps_moves_lem
