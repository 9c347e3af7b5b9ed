use Rattle.std.proofs.Common.{take}
use Rattle.core_rule_sets.specs.Endings.{count_at}
use Rattle.core_rule_sets.proofs.ClassEndings.{AreLast}
use Rattle.core_rule_sets.proofs.cycles.last_classes.Given as goal

abbrev pub invariant-loop-part : goal.invariant-loop-part
invariant-loop-part l = AreLast l.classes (take l.part-index l.parts) (count_at l.counts) l.last.items
