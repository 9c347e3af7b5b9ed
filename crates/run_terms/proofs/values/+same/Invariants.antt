use Rattle.std.proofs.Common.{◌≡◌, drop}
use Rattle.model.specs.rules.Values.{values_eq}
use Rattle.run_terms.specs.ValueViews.{value_views}
use Rattle.run_terms.proofs.values.+same.Given as goal

abbrev pub invariant-same_values-loop-x : goal.invariant-same_values-loop-x
invariant-same_values-loop-x l = (l.place ≡ l.x-index) × (values_eq (value_views (drop l.x-index l.a)) (value_views (drop l.x-index l.b)) ≡ values_eq (value_views l.a) (value_views l.b))
