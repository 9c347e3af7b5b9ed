use Rattle.std.proofs.Common.{◌<◌, length}
use Rattle.core_rule_sets.specs.SiteTables.{IsTable}
use Rattle.core_builder.specs.VisitedSites.{built_sites}
use Rattle.core_builder.proofs.UnwrappedSites.{Searched}
use Rattle.core_builder.proofs.ruleset_builder.RuleSetBuilder.unwrapped_calls.Given as goal

abbrev pub invariant-loop : goal.invariant-loop
invariant-loop l =
    IsTable l.fn.self.table → l.fn.site < length (built_sites l.fn.self) → Searched (built_sites l.fn.self) l.fn.site l.fn.walked l.walked l.due.keys l.calls.items l.counter
