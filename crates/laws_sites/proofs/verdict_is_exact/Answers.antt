use Rattle.laws_sites.proofs.Settled.{verdict_is_exact_lem}
use Rattle.laws_sites.proofs.verdict_is_exact.Goals as goal

pub returns : goal.returns
returns c = verdict_is_exact_lem
