use Rattle.laws_sites.proofs.LimitsReported.{reports_name_passed_limits_lem}
use Rattle.laws_sites.proofs.reports_name_passed_limits.Goals as goal

pub returns : goal.returns
returns c = reports_name_passed_limits_lem
