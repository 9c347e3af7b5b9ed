use Rattle.std.proofs.Common.{ap, ◌∙◌}
use Rattle.std.specs.Prelude.{nat_eq}
use Rattle.core_containers.specs.Partition.{together}
use Rattle.core_rule_sets.proofs.NotedSites.{none_together}
use Rattle.core_rule_sets.proofs.demanded.Demanded.clear.Goals as goal

pub returns-clause-equated : goal.returns-clause-equated
returns-clause-equated c a b = ap (λ l. together nat_eq l a b) c.new.ensures ∙ none_together a b
