use Rattle.std.proofs.Common.{sym, ap, ◌∙◌, subst}
use Rattle.std.specs.Prelude.{nat_eq}
use Rattle.std.specs.List.{IsDistinct}
use Rattle.core_rule_sets.specs.Listings.{sites_of}
use Rattle.core_rule_sets.proofs.AskedOnce.{nothing_once}
use Rattle.core_rule_sets.proofs.asked_sites.AskedSites.new.Goals as goal

pub invariant_of-result : goal.invariant_of-result
invariant_of-result c = (ap sites_of c.new-2.ensures.items ∙ sym c.new.ensures, subst (λ l. IsDistinct nat_eq (sites_of l)) (sym c.new-2.ensures.items) nothing_once)
