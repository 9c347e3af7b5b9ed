use Rattle.laws_typing.proofs.WellTypedRules.{elaborated_programs_are_well_typed_lem}
use Rattle.laws_typing.proofs.elaborated_programs_are_well_typed.Goals as goal

pub returns : goal.returns
returns c = elaborated_programs_are_well_typed_lem
