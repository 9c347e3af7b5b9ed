use Rattle.model_code.proofs.Flattening.{flat_runs_same_lem}
use Rattle.model_code.proofs.flat_runs_same.Goals as goal

pub returns : goal.returns
returns c = flat_runs_same_lem
