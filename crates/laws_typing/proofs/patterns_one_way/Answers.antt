use Rattle.laws_typing.proofs.TypedRules as rules
use Rattle.laws_typing.proofs.patterns_one_way.Goals as goal

pub returns : goal.returns
returns c = rules.patterns_one_way
