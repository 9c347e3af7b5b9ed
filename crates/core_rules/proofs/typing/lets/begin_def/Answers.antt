use Rattle.std.proofs.Common.{refl}
use Rattle.core_typed.proofs.NotedErrors.{none_at}
use Rattle.core_rules.proofs.typing.lets.begin_def.Goals as goal

pub returns-clause-exact : goal.returns-clause-exact
returns-clause-exact c = none_at _ _ refl
