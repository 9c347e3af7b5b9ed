use Rattle.laws_typing.proofs.TypesStay.{types_stay_lem}
use Rattle.laws_typing.proofs.types_stay.Goals as goal

pub returns : goal.returns
returns c = types_stay_lem
