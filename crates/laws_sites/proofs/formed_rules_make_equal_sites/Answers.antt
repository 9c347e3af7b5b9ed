use Rattle.laws_sites.proofs.BoundSites.{formed_rules_make_equal_sites_lem}
use Rattle.laws_sites.proofs.formed_rules_make_equal_sites.Goals as goal

pub returns : goal.returns
returns c = formed_rules_make_equal_sites_lem
