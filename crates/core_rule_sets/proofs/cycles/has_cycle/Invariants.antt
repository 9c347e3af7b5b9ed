use Rattle.std.proofs.Common.{List, ◌+◌, length}
use Rattle.core_rule_sets.specs.Endings.{count_at, listed_at}
use Rattle.core_rule_sets.specs.declared.closure_classes.Part.{Part}
use Rattle.core_rule_sets.proofs.ClassEndings.{AreCounted}
use Rattle.core_rule_sets.proofs.cycles.has_cycle.Given as goal

abbrev pub invariant-loop-class : goal.invariant-loop-class
invariant-loop-class l = (left : List Part) × AreCounted l.classes l.parts left (listed_at l.wholes) (count_at l.counts) l.ended.items l.left

abbrev pub decreases-loop-class : goal.decreases-loop-class
decreases-loop-class l = l.left + l.left + length l.ended.items
