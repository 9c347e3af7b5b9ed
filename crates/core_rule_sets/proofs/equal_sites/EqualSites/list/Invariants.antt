use Rattle.core_rule_sets.specs.Listings.{class_lists}
use Rattle.core_rule_sets.specs.SetLists.{IsListedBefore}
use Rattle.core_rule_sets.proofs.equal_sites.EqualSites.list.Given as goal

abbrev pub invariant-loop-site : goal.invariant-loop-site
invariant-loop-site l = IsListedBefore l.self l.rest (class_lists l.listed.items) l.site-iterator
