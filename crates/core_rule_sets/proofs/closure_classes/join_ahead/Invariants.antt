use Rattle.std.proofs.Common.{[], false}
use Rattle.core_rule_sets.proofs.FieldJoins.{IsRound}
use Rattle.core_rule_sets.proofs.closure_classes.join_ahead.Given as goal

abbrev pub invariant-loop : goal.invariant-loop
invariant-loop l = IsRound l.parts [] l.fn.classes l.classes l.firsts false
