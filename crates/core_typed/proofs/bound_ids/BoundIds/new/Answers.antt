use Rattle.std.proofs.Common.{sym, subst}
use Rattle.std.specs.List.Sorted.{IsStrictlySortedBy}
use Rattle.std.specs.Ordering.{nat_cmp}
use Rattle.model.specs.visits.Runs.{bound_vars}
use Rattle.core_typed.specs.BoundEntries.{by_number}
use Rattle.core_typed.proofs.BoundPlaces.{none_ascend}
use Rattle.core_typed.proofs.bound_ids.BoundIds.new.Goals as goal

pub invariant_of-result : goal.invariant_of-result
invariant_of-result g c = subst (λ vs. IsStrictlySortedBy nat_cmp (bound_vars (by_number vs))) (sym c.new.ensures.items) none_ascend
