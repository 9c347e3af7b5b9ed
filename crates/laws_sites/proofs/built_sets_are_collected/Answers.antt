use Rattle.laws_sites.proofs.built.CollectedSets.{are_collected_lem}
use Rattle.laws_sites.proofs.built_sets_are_collected.Goals as goal

pub returns : goal.returns
returns c = are_collected_lem
