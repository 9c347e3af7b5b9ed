use Rattle.laws_sites.proofs.overlaps.ListedOverlaps.{overlaps_are_listed_once_lem}
use Rattle.laws_sites.proofs.overlaps_are_listed_once.Goals as goal

pub returns : goal.returns
returns c = overlaps_are_listed_once_lem
