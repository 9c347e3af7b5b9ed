use Rattle.laws_typing.proofs.RefusedAgain.{rules_are_refused_again_lem}
use Rattle.laws_typing.proofs.rules_are_refused_again.Goals as goal

pub returns : goal.returns
returns c = rules_are_refused_again_lem
