use Rattle.std.proofs.Common.{◌≡◌, take}
use Rattle.core_rule_sets.proofs.asked_sites.AskedSites.copy.Given as goal

-- what was copied
abbrev pub invariant-loop-asked : goal.invariant-loop-asked
invariant-loop-asked l = l.copied.items ≡ take l.asked-index l.asked-items
