use Rattle.model_code.proofs.FlatScopes.{flat_keeps_scopes_lem}
use Rattle.model_code.proofs.flat_keeps_scopes.Goals as goal

pub returns : goal.returns
returns c = flat_keeps_scopes_lem
