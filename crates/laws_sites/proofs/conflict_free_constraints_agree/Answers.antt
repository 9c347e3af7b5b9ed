use Rattle.laws_sites.proofs.Reports.{conflict_free_constraints_agree_lem}
use Rattle.laws_sites.proofs.conflict_free_constraints_agree.Goals as goal

pub returns : goal.returns
returns c = conflict_free_constraints_agree_lem
