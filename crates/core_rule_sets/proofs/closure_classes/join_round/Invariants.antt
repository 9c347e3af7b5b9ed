use Rattle.std.proofs.Common.{take}
use Rattle.core_rule_sets.proofs.FieldJoins.{IsRound}
use Rattle.core_rule_sets.proofs.closure_classes.join_round.Given as goal

abbrev pub invariant-loop-part : goal.invariant-loop-part
invariant-loop-part l = IsRound l.parts (take l.part-index l.parts) l.fn.classes l.classes l.firsts l.changed
