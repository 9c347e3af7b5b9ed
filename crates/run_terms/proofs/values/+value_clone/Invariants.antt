use Rattle.std.proofs.Common.{◌≡◌, drop}
use Rattle.run_terms.specs.ValueViews.{value_views}
use Rattle.run_terms.proofs.ValueSteps.{before}
use Rattle.run_terms.proofs.values.+value_clone.Given as goal

abbrev pub invariant-value_clones-loop-part : goal.invariant-value_clones-loop-part
invariant-value_clones-loop-part l = before l.out.items (value_views (drop l.part-index l.parts)) ≡ value_views l.parts
