use Rattle.std.proofs.Common.{◌≡◌, not, slice_get, take}
use Rattle.std.specs.List.{filter}
use Rattle.model.specs.trees.Places.{is_in_place}
use Rattle.core_rule_sets.specs.SiteViews.{set_view}
use Rattle.core_serialize.proofs.binds.bound_of.Given as goal

abbrev pub invariant-loop-number : goal.invariant-loop-number
invariant-loop-number l = l.bound.items ≡ filter (λ s. not (is_in_place (slice_get (set_view l.set).sites s))) (take l.number-index l.listed)
