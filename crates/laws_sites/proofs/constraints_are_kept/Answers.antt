use Rattle.laws_sites.proofs.Closing.{constraints_are_kept_lem}
use Rattle.laws_sites.proofs.constraints_are_kept.Goals as goal

pub returns : goal.returns
returns c = constraints_are_kept_lem
