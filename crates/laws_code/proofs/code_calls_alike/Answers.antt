use Rattle.laws_code.proofs.CalledAlike.{code_calls_alike_lem}
use Rattle.laws_code.proofs.code_calls_alike.Goals as goal

pub returns : goal.returns
returns c = code_calls_alike_lem c.trees_call_alike.ensures
