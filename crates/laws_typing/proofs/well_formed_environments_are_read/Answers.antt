use Rattle.laws_typing.proofs.EnvironmentsShown.{well_formed_environments_are_read_lem}
use Rattle.laws_typing.proofs.well_formed_environments_are_read.Goals as goal

pub returns : goal.returns
returns c = well_formed_environments_are_read_lem
