use Rattle.laws_sites.proofs.built.Priorities.{one_priority_lem}
use Rattle.laws_sites.proofs.multi_terms_have_one_priority.Goals as goal

pub returns : goal.returns
returns c = one_priority_lem
