use Rattle.model_code.proofs.PrintedCode.{printed_code_runs_lem}
use Rattle.model_code.proofs.printed_code_runs.Goals as goal

pub returns : goal.returns
returns c = printed_code_runs_lem
