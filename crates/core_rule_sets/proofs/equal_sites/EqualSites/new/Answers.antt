use Rattle.std.proofs.Common.{sym, ap, ◌∙◌}
use Rattle.std.specs.Prelude.{nat_eq}
use Rattle.std.proofs.lemmas.Bool.{false≢true}
use Rattle.core_containers.specs.Partition.{together}
use Rattle.core_rule_sets.proofs.NotedSites.{none_together}
use Rattle.core_rule_sets.proofs.equal_sites.EqualSites.new.Goals as goal

pub invariant_of-result : goal.invariant_of-result
invariant_of-result c a b t = absurd (false≢true (sym (ap (λ l. together nat_eq l a b) c.new.ensures ∙ none_together a b) ∙ t))
