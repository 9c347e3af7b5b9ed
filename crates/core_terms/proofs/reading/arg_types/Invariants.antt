use Rattle.std.proofs.Common.{◌≡◌, drop}
use Rattle.core_terms.proofs.Arguments.{IsLookedUp}
use Rattle.core_terms.proofs.reading.arg_types.Given as goal

abbrev pub invariant-loop-name : goal.invariant-loop-name
invariant-loop-name l = (l.errors.items ≡ l.initial.errors.items) × IsLookedUp l.tyenv l.names (drop l.name-index l.names) l.arg_tys.items
