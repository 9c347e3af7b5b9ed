use Rattle.laws_typing.proofs.OwnTypes.{own_types_are_readable_lem}
use Rattle.laws_typing.proofs.own_types_are_readable.Goals as goal

pub returns : goal.returns
returns c = own_types_are_readable_lem
