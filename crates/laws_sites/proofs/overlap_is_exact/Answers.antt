use Rattle.laws_sites.proofs.overlaps.Overlaps.{overlap_is_exact_lem}
use Rattle.laws_sites.proofs.overlap_is_exact.Goals as goal

pub returns : goal.returns
returns c = overlap_is_exact_lem
