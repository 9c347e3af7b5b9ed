use Rattle.laws_typing.proofs.TypedRules as rules
use Rattle.laws_typing.proofs.lists_agree.Goals as goal

pub returns : goal.returns
returns c = rules.lists_agree
