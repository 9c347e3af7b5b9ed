use Rattle.laws_typing.proofs.WellFormed.{own_types_are_well_formed_lem}
use Rattle.laws_typing.proofs.own_types_are_well_formed.Goals as goal

pub returns : goal.returns
returns c = own_types_are_well_formed_lem
