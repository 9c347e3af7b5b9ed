use Rattle.laws_sites.proofs.VisitedRules.{visits_make_lem}
use Rattle.laws_sites.proofs.visits_make_equal_sites.Goals as goal

pub returns : goal.returns
returns c = visits_make_lem
