use Rattle.laws_sites.proofs.Reports.{reports_are_exact_lem}
use Rattle.laws_sites.proofs.reports_are_exact.Goals as goal

pub returns : goal.returns
returns c = reports_are_exact_lem
