use Rattle.laws_code.proofs.Bounds.{code_keeps_bound_lem}
use Rattle.laws_code.proofs.code_keeps_bound.Goals as goal

pub returns : goal.returns
returns c = code_keeps_bound_lem c.printed_code_runs.ensures
