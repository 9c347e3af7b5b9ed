use Rattle.core_rules.proofs.LetScopes.{Closing}
use Rattle.core_rules.proofs.typing.lets.close_let.Given as goal

abbrev pub invariant-loop-i : goal.invariant-loop-i
invariant-loop-i l = Closing l.hidden l.i l.fn.work l.work
