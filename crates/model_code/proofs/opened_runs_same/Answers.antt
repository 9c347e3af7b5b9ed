use Rattle.model_code.proofs.Opening.{opened_runs_same_lem}
use Rattle.model_code.proofs.opened_runs_same.Goals as goal

pub returns : goal.returns
returns c = opened_runs_same_lem
