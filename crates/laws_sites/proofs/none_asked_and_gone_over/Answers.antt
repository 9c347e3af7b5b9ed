use Rattle.laws_sites.proofs.built.MultiCalls.{none_asked_and_gone_over_lem}
use Rattle.laws_sites.proofs.none_asked_and_gone_over.Goals as goal

pub returns : goal.returns
returns c = none_asked_and_gone_over_lem
