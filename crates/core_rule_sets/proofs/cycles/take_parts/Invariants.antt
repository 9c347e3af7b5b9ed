use Rattle.std.proofs.Common.{take}
use Rattle.core_rule_sets.specs.Endings.{count_at, PartsAreTaken}
use Rattle.core_rule_sets.proofs.cycles.take_parts.Given as goal

abbrev pub invariant-loop-whole : goal.invariant-loop-whole
invariant-loop-whole l = PartsAreTaken (count_at l.initial.counts) (count_at l.counts) (take l.whole-index l.wholes) l.initial.ended.items l.ended.items
