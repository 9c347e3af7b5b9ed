use Rattle.model_code.proofs.TreeScopes.{printed_code_is_scoped_lem}
use Rattle.model_code.proofs.printed_code_is_scoped.Goals as goal

pub returns : goal.returns
returns c = printed_code_is_scoped_lem
