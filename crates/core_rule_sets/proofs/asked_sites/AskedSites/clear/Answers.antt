use Rattle.std.proofs.Common.{sym, ap, ◌∙◌, subst}
use Rattle.std.specs.Prelude.{nat_eq}
use Rattle.std.specs.List.{IsDistinct}
use Rattle.core_rule_sets.specs.Listings.{sites_of}
use Rattle.core_rule_sets.proofs.AskedOnce.{nothing_once}
use Rattle.core_rule_sets.proofs.asked_sites.AskedSites.clear.Goals as goal

pub invariant_of-self : goal.invariant_of-self
invariant_of-self c = (ap sites_of c.clear.ensures.items ∙ sym c.truncate.ensures, subst (λ l. IsDistinct nat_eq (sites_of l)) (sym c.clear.ensures.items) nothing_once)
