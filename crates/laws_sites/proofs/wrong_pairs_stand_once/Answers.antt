use Rattle.laws_sites.proofs.overlaps.Pairs.{wrong_pairs_stand_once_lem}
use Rattle.laws_sites.proofs.wrong_pairs_stand_once.Goals as goal

pub returns : goal.returns
returns c = wrong_pairs_stand_once_lem
