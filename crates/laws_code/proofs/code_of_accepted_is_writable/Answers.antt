use Rattle.laws_code.proofs.ReadCode.{code_of_accepted_is_writable_lem}
use Rattle.laws_code.proofs.code_of_accepted_is_writable.Goals as goal

pub returns : goal.returns
returns c = code_of_accepted_is_writable_lem c.code_of_built_sets_is_writable.ensures c.flat_keeps_writable.ensures c.moves_keep_writable.ensures
