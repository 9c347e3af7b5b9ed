use Rattle.laws_typing.proofs.RulesAgain.{rules_are_typed_again_lem}
use Rattle.laws_typing.proofs.rules_are_typed_again.Goals as goal

pub returns : goal.returns
returns c = rules_are_typed_again_lem
