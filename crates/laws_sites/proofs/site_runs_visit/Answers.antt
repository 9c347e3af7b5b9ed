use Rattle.laws_sites.proofs.SiteRuns.{site_runs_visit_lem}
use Rattle.laws_sites.proofs.site_runs_visit.Goals as goal

pub returns : goal.returns
returns c = site_runs_visit_lem
