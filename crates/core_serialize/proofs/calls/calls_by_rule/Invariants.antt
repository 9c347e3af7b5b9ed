use Rattle.std.proofs.Common.{◌≡◌, map, take}
use Rattle.core_rule_sets.specs.Listings.{class_lists}
use Rattle.core_serialize.proofs.CallLists.{gone_over}
use Rattle.core_serialize.proofs.calls.calls_by_rule.Given as goal

abbrev pub invariant-loop-rule : goal.invariant-loop-rule
invariant-loop-rule l = class_lists l.by_rule.items ≡ map (gone_over l.calls.items) (take l.rule-index l.rule-items)
