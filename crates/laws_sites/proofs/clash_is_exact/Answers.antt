use Rattle.laws_sites.proofs.overlaps.Overlaps.{clash_decides}
use Rattle.laws_sites.proofs.clash_is_exact.Goals as goal

pub returns : goal.returns
returns c = clash_decides
