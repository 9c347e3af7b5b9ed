use Rattle.laws_sites.proofs.built.MultiCalls.{no_rule_asks_and_goes_over_lem}
use Rattle.laws_sites.proofs.no_rule_asks_and_goes_over.Goals as goal

pub returns : goal.returns
returns c = no_rule_asks_and_goes_over_lem
