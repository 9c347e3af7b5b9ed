use Rattle.laws_sites.proofs.built.WholeDemands.{built_demands_are_whole_lem}
use Rattle.laws_sites.proofs.built_demands_are_whole.Goals as goal

pub returns : goal.returns
returns c = built_demands_are_whole_lem
