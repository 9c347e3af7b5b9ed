use Rattle.laws_sites.proofs.BuiltRules.{constrained_sites_stand_in_no_class_lem}
use Rattle.laws_sites.proofs.constrained_sites_stand_in_no_class.Goals as goal

pub returns : goal.returns
returns c = constrained_sites_stand_in_no_class_lem
