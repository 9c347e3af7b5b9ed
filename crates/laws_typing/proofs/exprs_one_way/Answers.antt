use Rattle.laws_typing.proofs.TypedRules as rules
use Rattle.laws_typing.proofs.exprs_one_way.Goals as goal

pub returns : goal.returns
returns c = rules.exprs_one_way
