use Rattle.laws_typing.proofs.JudgedReading.{lists_are_refused_lem}
use Rattle.laws_typing.proofs.lists_are_refused.Goals as goal

pub returns : goal.returns
returns c = lists_are_refused_lem
