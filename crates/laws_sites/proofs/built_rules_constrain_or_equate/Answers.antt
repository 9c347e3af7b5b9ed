use Rattle.laws_sites.proofs.built.ConstrainedOrEquated.{built_rules_constrain_or_equate_lem}
use Rattle.laws_sites.proofs.built_rules_constrain_or_equate.Goals as goal

pub returns : goal.returns
returns c = built_rules_constrain_or_equate_lem
