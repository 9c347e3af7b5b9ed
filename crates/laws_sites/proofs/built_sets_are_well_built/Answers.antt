use Rattle.laws_sites.proofs.built.WellBuiltSets.{built_sets_are_well_built_lem}
use Rattle.laws_sites.proofs.built_sets_are_well_built.Goals as goal

pub returns : goal.returns
returns c = built_sets_are_well_built_lem
