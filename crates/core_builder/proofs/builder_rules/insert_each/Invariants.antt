use Rattle.std.proofs.Common.{◌≡◌, drop}
use Rattle.core_builder.specs.VisitedSites.{with_keys}
use Rattle.core_builder.proofs.builder_rules.insert_each.Given as goal

abbrev pub invariant-loop-site : goal.invariant-loop-site
invariant-loop-site l = with_keys l.due.keys (drop l.site-index l.sites) ≡ with_keys l.fn.due.keys l.sites
