use Rattle.std.proofs.Common.{◌≡◌, ◌++◌, drop}
use Rattle.model.specs.rules.Values.{listed}
use Rattle.model.specs.trees.Run.{all_one}
use Rattle.run_terms.specs.RunViews.{content_list}
use Rattle.run_terms.specs.ValueViews.{value_views}
use Rattle.run_terms.proofs.fields.each_one.Given as goal

abbrev pub invariant-loop-value : goal.invariant-loop-value
invariant-loop-value l = content_list l.out.items ++ all_one (listed (value_views (drop l.value-index l.values))) ≡ all_one (listed (value_views l.values))
