use Rattle.model_code.proofs.CodeCut.{code_stops_at_bound_lem}
use Rattle.model_code.proofs.code_stops_at_bound.Goals as goal

pub returns : goal.returns
returns c = code_stops_at_bound_lem
