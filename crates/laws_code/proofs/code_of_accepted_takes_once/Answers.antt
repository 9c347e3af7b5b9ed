use Rattle.laws_code.proofs.CodeMoves.{code_of_accepted_takes_once_lem}
use Rattle.laws_code.proofs.code_of_accepted_takes_once.Goals as goal

pub returns : goal.returns
returns c = code_of_accepted_takes_once_lem c.loops_take_once.ensures c.calls_are_gone_over_in_built_sets.ensures c.built_sets_loop_over_bound.ensures
