use Rattle.std.proofs.Common.{◌≡◌, []}
use Rattle.std.specs.Prelude.{vec_len}
use Rattle.core_overlap.specs.Comparisons.{AreGrouped}
use Rattle.core_overlap.proofs.overlap.empty_lists.Given as goal

abbrev pub invariant-loop : goal.invariant-loop
invariant-loop l = record { length : vec_len l.lists ≡ l.counter; grouped : AreGrouped l.lists.items [] }
