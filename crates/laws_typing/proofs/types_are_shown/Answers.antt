use Rattle.laws_typing.proofs.TypesStay.{types_are_shown_lem}
use Rattle.laws_typing.proofs.types_are_shown.Goals as goal

pub returns : goal.returns
returns c = types_are_shown_lem
