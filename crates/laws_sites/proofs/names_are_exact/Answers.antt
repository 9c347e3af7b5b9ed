use Rattle.laws_sites.proofs.Settled.{names_are_exact_lem}
use Rattle.laws_sites.proofs.names_are_exact.Goals as goal

pub returns : goal.returns
returns c = names_are_exact_lem
