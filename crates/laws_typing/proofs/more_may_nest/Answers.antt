use Rattle.laws_typing.proofs.TypedRules as rules
use Rattle.laws_typing.proofs.more_may_nest.Goals as goal

pub returns : goal.returns
returns c = rules.more_may_nest
