use Rattle.laws_typing.proofs.TypeLaws.{types_stand_at_ids_lem}
use Rattle.laws_typing.proofs.types_stand_at_ids.Goals as goal

pub returns : goal.returns
returns c = types_stand_at_ids_lem
