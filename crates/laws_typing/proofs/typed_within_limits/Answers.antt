use Rattle.laws_typing.proofs.TypedRules as rules
use Rattle.laws_typing.proofs.typed_within_limits.Goals as goal

pub returns : goal.returns
returns c = rules.typed_within_limits
