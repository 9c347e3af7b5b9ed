use Rattle.laws_sites.proofs.overlaps.Pairs.{only_wrong_pairs_stand_lem}
use Rattle.laws_sites.proofs.only_wrong_pairs_stand.Goals as goal

pub returns : goal.returns
returns c = only_wrong_pairs_stand_lem
